-- Document 02, request d: the exported joint call is the two exported calls one after the other, the write on the bytes that the completion left.
use Rattle.std.specs.Prelude.{ℕ, ◌≡◌, List}
use Rattle.board.specs.Calls.{WriteEnd, WriteCall, CompleteCall, not_tried, JointEnd}

-- completing was refused with k, and no byte has changed
abbrev pub end_stopped : List ℕ → List ℕ → List ℕ → List ℕ → ℕ → JointEnd
end_stopped table image undo handed k = record { first = k; second = not_tried; set = 0; table = table; image = image; undo = undo; handed = handed }

-- it was granted, and all else is what the write left
abbrev pub end_went : WriteEnd → JointEnd
end_went w = record { first = 0; second = w.refusal; set = w.set; table = w.table; image = w.image; undo = w.undo; handed = w.handed }

pub data TwoCalls (table image undo handed : List ℕ) (x y : ℕ) (e : JointEnd) : Type 0 where
  stops : (k : ℕ) → CompleteCall table x k table → (k ≡ 0 → ⊥) → e ≡ end_stopped table image undo handed k → TwoCalls table image undo handed x y e
  goes_on : (between : List ℕ) → CompleteCall table x 0 between → (w : WriteEnd) → WriteCall between image undo handed y w → e ≡ end_went w
      → TwoCalls table image undo handed x y e
