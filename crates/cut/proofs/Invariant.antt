-- What holds between any two steps, and why a cut is safe then: the clauses of `Invariant`. Every other file of this
-- folder shows that some step keeps them, or reads the theorem off them.
use Prim.Native.Nat.{ℕ}
use mathlib.Core.Path.{◌≡◌, sym, ◌∙◌, ap}
use mathlib.Core.Bool.{Bool, true, false}
use mathlib.Core.List.{List, Memᴰ}
use mathlib.Core.Logic.{◌⊎◌, inl, inr}
use Rattle.cut.specs.Changes.{Store, Logged, after, only, Earlier}
use Rattle.cut.specs.World.{World, Stage, waiting, in_flight, committed, Must}
use Rattle.cut.specs.Cut.{reached}
use Rattle.ground.proofs.Decided.{clash}
use Rattle.cut.proofs.Facts.{same_on_block}
use Rattle.cut.proofs.TakeBack.{Kept}

-- The opening with those changes carried out that are on the store when no write in flight is there (false), or when
-- every one is (true).
abbrev pub carried : Bool → World → Store → Store
carried new w opening = after (only (λ c. reached new (w.state c)) w.log) opening

-- The ways in which y, that must not reach the store before x, does not.
pub data Held (w : World) (y x : Logged) : Type 0 where
  -- x is on the store for good
  done : w.state x ≡ committed → Held w y x
  -- y has not been sent, and the tie holds it
  waits : w.state y ≡ waiting → w.tied y x → Held w y x
  -- both are in one write in flight, which is there whole or not at all
  together : w.state y ≡ in_flight → w.state x ≡ in_flight → y.block ≡ x.block → w.tied y x → Held w y x

-- All that must follow is held.
abbrev pub Ordered : World → Type 0
Ordered w = (y x : Logged) → Earlier w.log y x → Must w y x → Held w y x

pub record Invariant (opening : Store) (w : World) : Type 0 where
  -- The working image has every accepted change. A creation that touches a byte outside its range breaks it, or a
  -- write that takes back in the working image itself.
  pub image : (b i : ℕ) → w.working b i ≡ after w.log opening b i
  -- The store has the committed changes, and no byte of another. A completion of the wrong block breaks it.
  pub on_store : (b i : ℕ) → w.store b i ≡ carried false w opening b i
  -- With its writes in flight it has those in flight too. A write that takes back oldest first breaks it, or one that
  -- leaves a change behind without its old bytes.
  pub on_way : (b i : ℕ) → w.sent b i ≡ carried true w opening b i
  -- Old bytes are those of the changes accepted before. A creation that keeps them after its data went in breaks it.
  pub kept : Kept w.kept w.undo opening w.log
  -- No change reaches the store before one it must follow. A creation that drops a before that is only in flight
  -- breaks it, and a write that takes in flight for committed.
  pub order : Ordered w

-- A change is in one state.

pub waits_not_done {ℓ} : {A : Type ℓ} {r : Stage} → r ≡ waiting → r ≡ committed → A
unfolding reached
waits_not_done {r} a d = absurd (clash (ap (reached true) d) (ap (reached true) a))

pub waits_not_off {ℓ} : {A : Type ℓ} {r : Stage} → r ≡ waiting → r ≡ in_flight → A
unfolding reached
waits_not_off {r} a d = absurd (clash (ap (reached true) d) (ap (reached true) a))

pub off_not_done {ℓ} : {A : Type ℓ} {r : Stage} → r ≡ in_flight → r ≡ committed → A
unfolding reached
off_not_done {r} a d = absurd (clash (ap (reached false) d) (ap (reached false) a))

-- What a step says of the tie holds y, whether y waits or is in flight with x.

pub held_waiting : {w : World} {y x : Logged} → w.state y ≡ waiting → (w.state x ≡ committed) ⊎ w.tied y x → Held w y x
held_waiting a (inl k) = done k
held_waiting a (inr t) = waits a t

pub held_together : {w : World} {y x : Logged} → w.state y ≡ in_flight → w.state x ≡ in_flight → y.block ≡ x.block
    → (w.state x ≡ committed) ⊎ w.tied y x → Held w y x
held_together a d s (inl k) = done k
held_together a d s (inr t) = together a d s t

-- The bytes that the log gives on a block are the same in two worlds where the block's changes are as far.
pub carried_same : (w w' : World) (opening : Store) → w'.log ≡ w.log → (new new' : Bool) (b i : ℕ)
    → ((x : Logged) → Memᴰ x w.log → x.block ≡ b → reached new (w.state x) ≡ reached new' (w'.state x))
    → carried new w opening b i ≡ carried new' w' opening b i
carried_same w w' opening e new new' b i h =
    same_on_block b i _ _ opening w.log h
    ∙ ap (λ (l : List Logged). after (only (λ c. reached new' (w'.state c)) l) opening b i) (sym e)
