-- The theorem: from an opening, after any steps and whatever cut, the store is the opening with the landed changes
-- carried out in the order accepted, and what a landed change asked for is landed.
-- A cache above uses it in one of two ways: it shows a `Run` and cites `store-after-cut`, or it carries the invariant
-- along its own histories by `open_invariant` and `step_keeps`, and cites `cut_safe` at their end.
use Prim.Native.Nat.{ℕ}
use mathlib.Core.Path.{◌≡◌, refl, sym, ◌∙◌, ap, subst}
use mathlib.Core.Bool.{Bool, true, false, cond}
use mathlib.Core.List.{List, []}
use mathlib.Core.Logic.{inl}
use Rattle.cut.specs.Changes.{Store, Logged, after, only, Earlier}
use Rattle.cut.specs.World.{World, Must, AskedThrough, straight, through, Step, accepts, sends, lands, fails, rests, Begun, Run, none, more}
use Rattle.cut.specs.Cut.{after_cut, reached, landed, SafeAt}
use Rattle.ground.proofs.Decided.{clash}
use Rattle.cut.proofs.Facts.{same_on_block}
use Rattle.cut.proofs.Invariant.{Held, done, waits, together, Invariant, carried}
use Rattle.cut.proofs.Accept.{accept_keeps}
use Rattle.cut.proofs.Send.{send_keeps}
use Rattle.cut.proofs.Turn.{land_keeps, fail_keeps, rest_keeps}

module _ {opening : Store} where
  pub open_invariant : {w : World} → Begun opening w → Invariant opening w
  unfolding after only
  open_invariant {w} h = record {
    image = λ b i. rw h.log (h.working b i);
    on_store = λ b i. rw h.log (h.store b i);
    on_way = λ b i. rw h.log (h.sent b i);
    kept = rw h.log tt;
    order = λ y x e. nothing y x (subst (λ (l : List Logged). Earlier l y x) h.log e);
  }
    where
      nothing : (y x : Logged) → Earlier [] y x → Must w y x → Held w y x
      nothing y x e = elim e [ ]

  pub step_keeps : {w w' : World} → Step w w' → Invariant opening w → Invariant opening w'
  step_keeps {w} {w'} (accepts c h) v = accept_keeps c w w' h opening v
  step_keeps {w} {w'} (sends b go h) v = send_keeps b go w w' h opening v
  step_keeps {w} {w'} (lands b h) v = land_keeps b w w' h opening v
  step_keeps {w} {w'} (fails b h) v = fail_keeps b w w' h opening v
  step_keeps {w} {w'} (rests h) v = rest_keeps w w' h opening v

  pub run_keeps : {w w' : World} → Run w w' → Invariant opening w → Invariant opening w'
  run_keeps none v = v
  run_keeps (more s r) v = run_keeps r (step_keeps s v)

-- A cut in one world

module _ (opening : Store) (w : World) (v : Invariant opening w) (new : ℕ → Bool) where
  -- on a block all changes in flight are there or none is, as the block's write is
  carried_landed : (b i : ℕ) (n : Bool) → new b ≡ n → carried n w opening b i ≡ after (only (landed new w) w.log) opening b i
  unfolding landed
  carried_landed b i n e = same_on_block b i _ _ opening w.log (λ x m s. ap (λ (n : Bool). reached n (w.state x)) (sym (ap new s ∙ e)))

  after_holds : (b i : ℕ) → after_cut new w b i ≡ after (only (landed new w) w.log) opening b i
  unfolding after_cut
  after_holds b i = by (new b) refl
    where
      by : (n : Bool) → new b ≡ n → cond n (w.sent b i) (w.store b i) ≡ after (only (landed new w) w.log) opening b i
      by true e = v.on_way b i ∙ carried_landed b i true e
      by false e = v.on_store b i ∙ carried_landed b i false e

  -- what holds y back has y land after x, or with it
  held_lands : (y x : Logged) → Held w y x → landed new w y ≡ true → landed new w x ≡ true
  unfolding landed reached
  held_lands y x (done a) l = rw a
  held_lands y x (waits a t) l = absurd (clash (rw a at l) refl)
  held_lands y x (together a d s t) l = rw (d, ← s) (rw a at l)

  asked_lands : (y x : Logged) → landed new w y ≡ true → AskedThrough w y x → landed new w x ≡ true
  asked_lands y x l (straight a) = held_lands y x (v.order y x a.earlier (inl a.asks)) l
  asked_lands y x l (through {z = z} a f) = asked_lands z x (held_lands y z (v.order y z a.earlier (inl a.asks)) l) f

pub cut_safe : {opening : Store} {w : World} → Invariant opening w → (new : ℕ → Bool) → SafeAt opening w new
cut_safe {opening} {w} v new = record { holds = after_holds opening w v new; closed = asked_lands opening w v new }

-- THE THEOREM
pub store-after-cut : {opening : Store} {w w' : World} → Begun opening w → Run w w' → (new : ℕ → Bool) → SafeAt opening w' new
store-after-cut o r new = cut_safe (run_keeps r (open_invariant o)) new
