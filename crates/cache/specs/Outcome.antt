-- Inside this crate, need not be believed: what the functions under the calls answer, before it is handed back. No public promise cites this file.
use Rattle.std.specs.Prelude.{ℕ, List, [], ◌∷◌, Result, Ok, Err}
use Rattle.rules.specs.declared.refusals.Refusal.{Refusal}
use Rattle.rules.specs.Table as rules
use Rattle.rules.specs.Refusals.{Case, case, Unsound, NoBlock}
use Rattle.cache.specs.declared.types.Table.{Table}
use Rattle.cache.specs.declared.types.Answered.{Answered}

-- what is handed back: the next table and what is said with it, or the table as it came
abbrev pub answered : {T : Type 0} → Table → Result (Table × T) Refusal → Answered T
answered t (Ok p) = record { table = p.0; answer = Ok p.1 }
answered t (Err r) = record { table = t; answer = Err r }

-- what complete and count judge first
abbrev pub block_cases : rules.Table → ℕ → List Case
block_cases t b = case 2 (Unsound t) ∷ case 3 (NoBlock b) ∷ []
