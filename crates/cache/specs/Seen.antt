-- The code's table and what its calls return, as the rules have them: field for field.
use Rattle.std.specs.Prelude.{List, ℕ}
use Rattle.rules.specs.declared.Created.{Created}
use Rattle.rules.specs.Table as rules
use Rattle.rules.specs.Calls.{Opening, Creation, Writing, Completion}
use Rattle.rules.specs.Joint.{Joint}
use Rattle.cache.specs.declared.types.Table.{Table}
use Rattle.cache.specs.declared.types.Answered.{Answered}
use Rattle.cache.specs.declared.types.CompletedWritten.{CompletedWritten}

abbrev pub seen : Table → rules.Table
seen t = rules.table_of t.setting t.first t.next t.slots

abbrev pub opening : Answered (Unit {0}) → Opening
opening r = record { answer = r.answer; table = seen r.table }

-- with the working image and the undo area afterwards
abbrev pub creation : Answered Created → List ℕ → List ℕ → Creation
creation r image undo = record { answer = r.answer; table = seen r.table; image = image; undo = undo }

-- with the working image, the undo area and the block handed out afterwards
abbrev pub writing : Answered ℕ → List ℕ → List ℕ → List ℕ → Writing
writing r image undo block = record { answer = r.answer; table = seen r.table; image = image; undo = undo; block = block }

abbrev pub completion : Answered (Unit {0}) → Completion
completion r = record { answer = r.answer; table = seen r.table }

-- with the working image, the undo area and the block handed out afterwards
abbrev pub joint : CompletedWritten → List ℕ → List ℕ → List ℕ → Joint
joint r image undo block = record {
  first = r.first;
  second = r.second;
  table = seen r.table;
  image = image;
  undo = undo;
  block = block;
}
