-- Between crates, need not be believed: the refusals of create and write that need no table, in the words of `rules`, where a flag says whether the
-- table is sound. What they mean for a table is said in `cache` (proofs/Early.antt).
use Rattle.std.specs.Prelude.{ℕ, ◌≡◌, Bool, true, List, [], ◌∷◌, ◌++◌, ◌⊎◌}
use Rattle.rules.specs.declared.Setting.{Setting}
use Rattle.rules.specs.Sizes.{block_bytes, image_bytes}
use Rattle.rules.specs.Settings.{undo_bytes}
use Rattle.rules.specs.Table.{Issued}
use Rattle.rules.specs.Create.{Change, is_in}
use Rattle.slots.specs.declared.types.Patches.{Patches}
use Rattle.rules.specs.Refusals.{Case, case, First, WrongSize, NoBlock, WrongLength, PastEnd, ManyNamed}

-- some number of the list was never issued
abbrev pub Unissued : (next : ℕ) → List ℕ → Type 0
Unissued next numbers = (n : ℕ) × (is_in n numbers ≡ true) × (Issued next n → ⊥)

-- what a create lends, what it changes, and what it names before that
abbrev pub lent_cases : Setting → List ℕ → List ℕ → List Case
lent_cases g image undo = case 1 (WrongSize image_bytes image ⊎ WrongSize (undo_bytes g) undo) ∷ []

abbrev pub sound_cases : Bool → List Case
sound_cases sound = case 2 (sound ≡ true → ⊥) ∷ []

abbrev pub place_cases : Change → List Case
place_cases c = case 3 (NoBlock c.block) ∷ case 4 (WrongLength c) ∷ case 5 (PastEnd c) ∷ []

abbrev pub name_cases : ℕ → Change → List Case
name_cases next c = case 6 (ManyNamed c) ∷ case 7 (Unissued next c.named) ∷ []

-- 1 to 7 of a create
abbrev pub create_early : Setting → ℕ → Bool → List ℕ → List ℕ → Change → List Case
create_early g next sound image undo c = lent_cases g image undo ++ sound_cases sound ++ place_cases c ++ name_cases next c

-- r is the first of them that holds, or 0
abbrev pub CreateEarly : Setting → ℕ → Bool → List ℕ → List ℕ → Change → ℕ → Type 0
CreateEarly g next sound image undo c r = First (create_early g next sound image undo c) r

-- 1 to 12 of a write
abbrev pub write_early : Setting → Bool → Patches → List ℕ → List ℕ → List ℕ → ℕ → List Case
write_early g sound on image undo block b =
    case 1 (WrongSize image_bytes image ⊎ (WrongSize (undo_bytes g) undo ⊎ WrongSize block_bytes block))
    ∷ case 2 (sound ≡ true → ⊥)
    ∷ case 3 (NoBlock b)
    ∷ case 11 (on.in_flight ≡ 0 → ⊥)
    ∷ case 12 (on.waiting ≡ 0)
    ∷ []

abbrev pub WriteEarly : Setting → Bool → Patches → List ℕ → List ℕ → List ℕ → ℕ → ℕ → Type 0
WriteEarly g sound on image undo block b r = First (write_early g sound on image undo block b) r
