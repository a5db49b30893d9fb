-- Write: no lent buffer has the wrong size.
use Prim.Native.Nat.{ℕ}
use mathlib.Core.Path.{◌≡◌}
use mathlib.Core.List.{List}
use mathlib.Core.Logic.{◌⊎◌, ⊎_elim}
use lib.ListN.{length}
use Rattle.rules.specs.Refusals.{WrongSize}

pub wrong_none : (image undo block : List ℕ) {i u b : ℕ} → length image ≡ i → length undo ≡ u → length block ≡ b
    → (WrongSize i image ⊎ (WrongSize u undo ⊎ WrongSize b block)) → ⊥
wrong_none image undo block p q r = ⊎_elim (λ n. n p) (⊎_elim (λ n. n q) (λ n. n r))
