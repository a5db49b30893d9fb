-- Between crates, need not be believed: a bool that answers a question, which every test in the code promises. No call promises by it.
use Rattle.std.specs.Prelude.{Bool, true, false}

-- r says whether P holds
abbrev pub Decides : Type 0 → Bool → Type 0
Decides P true = P
Decides P false = P → ⊥
