-- The order of changes stands when the changes of each block move together: what waits waits still, what committed
-- has, and what is in flight may fall back, stay or commit. Accepting, landing, failing and resting are all of this
-- kind; sending is not, since it picks among a block's changes.
use Prim.Native.Nat.{ℕ}
use mathlib.Core.Path.{◌≡◌, ◌∙◌, ap, subst}
use mathlib.Core.List.{List, Memᴰ}
use mathlib.Core.Logic.{inl, inr}
use Rattle.cut.specs.Changes.{Logged, Earlier}
use Rattle.cut.specs.World.{World, Stage, waiting, in_flight, committed, Must, KeepsTies, AddsNoAsk}
use Rattle.cut.proofs.Facts.{newer_in, older_in}
use Rattle.cut.proofs.Invariant.{Held, done, waits, together, Ordered, waits_not_done, off_not_done, held_waiting, held_together}

-- How the changes of each block move.
pub record Moves (turn : ℕ → Stage → Stage) (w w' : World) : Type 1 where
  pub waits_still : (b : ℕ) → turn b waiting ≡ waiting
  pub done_still : (b : ℕ) → turn b committed ≡ committed
  pub moves : (x : Logged) → Memᴰ x w.log → w'.state x ≡ turn x.block (w.state x)

module _ (w w' : World) where
  pub must_before : AddsNoAsk w w' → {y x : Logged} → Earlier w.log y x → Must w' y x → Must w y x
  must_before h e (inl a) = inl (h _ _ e a)
  must_before h e (inr s) = inr s

  module _ (turn : ℕ → Stage → Stage) (h : Moves turn w w') (ties : KeepsTies w w') where
    -- y and x were in flight together, and are where their block's changes went
    together_still : (y x : Logged) → Earlier w.log y x → Must w y x → w.tied y x
        → (r : Stage) → w'.state y ≡ r → w'.state x ≡ r → y.block ≡ x.block → Held w' y x
    together_still y x e m t waiting ey ex s = held_waiting ey (ties y x e m (λ d. waits_not_done ey d) t)
    together_still y x e m t in_flight ey ex s = held_together ey ex s (ties y x e m (λ d. off_not_done ey d) t)
    together_still y x e m t committed ey ex s = done ex

    pub held_still : (y x : Logged) → Earlier w.log y x → Must w y x → Held w y x → Held w' y x
    held_still y x e m (done k) = done (h.moves x (older_in e) ∙ (ap (turn x.block) k ∙ h.done_still x.block))
    held_still y x e m (waits k t) =
        let a : w'.state y ≡ waiting = h.moves y (newer_in e) ∙ (ap (turn y.block) k ∙ h.waits_still y.block) in
        held_waiting a (ties y x e m (λ d. waits_not_done a d) t)
    held_still y x e m (together k q s t) = together_still y x e m t (turn x.block in_flight)
        (h.moves y (newer_in e) ∙ (ap (turn y.block) k ∙ ap (λ (b : ℕ). turn b in_flight) s))
        (h.moves x (older_in e) ∙ ap (turn x.block) q) s

    -- the whole order, where the log is the same
    pub ordered_still : w'.log ≡ w.log → AddsNoAsk w w' → Ordered w → Ordered w'
    ordered_still l asks o y x e m =
        let e' = subst (λ (k : List Logged). Earlier k y x) l e in
        let m' = must_before asks e' m in
        held_still y x e' m' (o y x e' m')
