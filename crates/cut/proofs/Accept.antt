-- Accepting a change keeps the invariant. The change may be one that the log has already.
use Prim.Native.Nat.{ℕ}
use mathlib.Core.Path.{◌≡◌, refl, sym, ◌∙◌, ap, subst}
use mathlib.Core.Bool.{Bool, true, false}
use mathlib.Core.List.{List, ◌∷◌, Memᴰ}
use mathlib.Core.Logic.{◌⊎◌, inl, inr}
use Rattle.cut.specs.Changes.{Store, Logged, after, only, Earlier, here, there}
use Rattle.cut.specs.World.{World, committed, Must, AcceptStep}
use Rattle.cut.specs.Cut.{reached}
use Rattle.cut.proofs.Facts.{older_in, only_drops, same_on_block, carry_same}
use Rattle.cut.proofs.TakeBack.{Kept, kept_fewer}
use Rattle.cut.proofs.Invariant.{Held, done, waits, Invariant, carried}
use Rattle.cut.proofs.Order.{Moves, held_still}

module _ (c : Logged) (w w' : World) (h : AcceptStep c w w') (opening : Store) (v : Invariant opening w) where
  -- the new change waits, so the store has it neither now nor with its writes in flight
  carried_still : (new : Bool) (b i : ℕ) → carried new w opening b i ≡ carried new w' opening b i
  unfolding reached
  carried_still new b i =
      same_on_block b i _ (λ x. reached new (w'.state x)) opening w.log (λ x m s. ap (reached new) (sym (h.old_state x m)))
      ∙ (ap (λ (l : List Logged). after l opening b i) (sym (only_drops (λ x. reached new (w'.state x)) c w.log (ap (reached new) h.new_state)))
      ∙ ap (λ (l : List Logged). after (only (λ x. reached new (w'.state x)) l) opening b i) (sym h.log))

  stays : Moves (λ b r. r) w w'
  stays = record { waits_still = λ b. refl; done_still = λ b. refl; moves = h.old_state }

  -- the new change waits for all that it must follow
  new_held : (x : Logged) → Memᴰ x w.log → Must w' c x → Held w' c x
  new_held x m k = by (h.new_ties x m k)
    where
      by : (w.state x ≡ committed) ⊎ w'.tied c x → Held w' c x
      by (inl a) = done (h.old_state x m ∙ a)
      by (inr t) = waits h.new_state t

  old_held : (y x : Logged) → Earlier w.log y x → Must w y x → Held w' y x
  old_held y x e m = held_still w w' (λ b r. r) stays h.old_ties y x e m (v.order y x e m)

  -- an ask between old changes is an old one, or that of an equal change accepted again
  old_ask : (y x : Logged) → Earlier w.log y x → w'.asked y x → w.asked y x ⊎ (y ≡ c) → Held w' y x
  old_ask y x e k (inl a) = old_held y x e (inl a)
  old_ask y x e k (inr s) =
      subst (λ (z : Logged). Held w' z x) (sym s) (new_held x (older_in e) (inl (subst (λ (z : Logged). w'.asked z x) s k)))

  held : (y x : Logged) → Earlier (c ∷ w.log) y x → Must w' y x → Held w' y x
  held y x (here m) k = new_held x m k
  held y x (there e) (inl a) = old_ask y x e a (h.asks y x e a)
  held y x (there e) (inr s) = old_held y x e (inr s)

  -- what is kept for it is the working image from before, which has every older change
  kept_now : Kept w'.kept w'.undo opening (c ∷ w.log)
  kept_now = (λ e b i ec. h.new_undo e b i ec ∙ v.image b i, kept_fewer _ _ _ _ _ _ h.old_undo v.kept)

  pub accept_keeps : Invariant opening w'
  unfolding after
  accept_keeps = record {
    image = λ b i. rw h.log (h.working b i ∙ carry_same b i c _ _ (v.image b i));
    on_store = λ b i. h.store b i ∙ (v.on_store b i ∙ carried_still false b i);
    on_way = λ b i. h.sent b i ∙ (v.on_way b i ∙ carried_still true b i);
    kept = rw h.log kept_now;
    order = λ y x e. held y x (subst (λ (l : List Logged). Earlier l y x) h.log e);
  }
