-- Document 02, request c: a record's call is made on what is kept, by the rules' own definitions; what is kept then, and what its line says.
use Rattle.std.specs.Prelude.{ℕ, ◌≡◌, Bool, true, false, not, List, replicate, Result, Ok, Err}
use Rattle.masks.specs.Sets.{has, how_many}
use Rattle.rules.specs.declared.Setting.TheVariants.{Board}
use Rattle.rules.specs.declared.Slot.{Slot}
use Rattle.rules.specs.declared.Created.{Created}
use Rattle.rules.specs.declared.refusals.Refusal.{Refusal}
use Rattle.rules.specs.Sizes.{slots, block_bytes, image_bytes}
use Rattle.rules.specs.Settings.{undo_bytes}
use Rattle.rules.specs.Table.{Table}
use Rattle.rules.specs.Open.{opened}
use Rattle.rules.specs.Create.{Change}
use Rattle.rules.specs.Complete.{landing}
use Rattle.rules.specs.Calls.{answer_number, Opening, Opens, Creation, Creates, Writing, Writes, Completion, Completes}
use Rattle.records.specs.Record.{Call, opens, creates, writes, completes, cuts, record_of, Fits}
use Rattle.lines.specs.declared.types.Word.{Word}
use Rattle.lines.specs.declared.types.Word.TheVariants as word
use Rattle.lines.specs.declared.types.More.{More}
use Rattle.lines.specs.declared.types.More.TheVariants as more
use Rattle.lines.specs.declared.types.Line.{Line}
use Rattle.trace.specs.declared.types.Phase.{Phase}
use Rattle.trace.specs.declared.types.Phase.TheVariants as phase
use Rattle.tally.specs.Counts.{plus, one_more, carried, cleared, cut_landing}

-- what is kept between records, with the working image and the undo area
pub record Run : Type 0 where
  pub phase : Phase
  -- the place of the next record, from 1
  pub place : ℕ
  pub table : Table
  pub image : List ℕ
  pub undo : List ℕ
  -- how many changes the patch of each slot stands for, and how many changes have committed
  pub changes : List ℕ
  pub committed : ℕ

-- before the first record: a zero image, and nothing opened
unfoldable pub begun : Run
begun = record {
  phase = phase.Unopened;
  place = 1;
  table = opened Board 1;
  image = replicate image_bytes 0;
  undo = replicate (undo_bytes Board) 0;
  changes = replicate slots 0;
  committed = 0;
}

-- open comes first and is not given again; nothing comes after a cut
abbrev pub is_open : Call → Bool
is_open (opens n) = true
is_open (creates c) = false
is_open (writes b) = false
is_open (completes b) = false
is_open (cuts s) = false

abbrev pub is_in_order : Phase → Call → Bool
is_in_order phase.Unopened c = is_open c
is_in_order phase.Opened c = not (is_open c)
is_in_order phase.Over c = false

-- a record's call made: what is kept from then on, and its line
pub record Step : Type 0 where
  pub run : Run
  pub line : Line

abbrev pub line_of : Run → Word → ℕ → More → Line
line_of r w n m = record { place = r.place; word = w; number = n; more = m }

-- the run after a record: its place is past, and the changes are counted anew
abbrev pub onward : Run → Phase → Table → List ℕ → List ℕ → List ℕ → ℕ → Run
onward r p t image undo changes committed = record {
  phase = p;
  place = plus r.place 1;
  table = t;
  image = image;
  undo = undo;
  changes = changes;
  committed = committed;
}

-- OPEN: refused or not, what follows is the table that open gave
abbrev pub after_open : Run → Opening → Step
after_open r o = record {
  run = onward r phase.Opened o.table r.image r.undo r.changes r.committed;
  line = line_of r word.Open (answer_number o.answer) more.Nothing;
}

-- CREATE: granted, the patch with the number that was answered stands for one change more
abbrev pub changes_after : Result Created Refusal → List Slot → List ℕ → List ℕ
changes_after (Ok a) ss changes = one_more ss a.number changes
changes_after (Err r) ss changes = changes

-- a granted create adds number and hard or soft
abbrev pub create_more : Result Created Refusal → More
create_more (Ok a) = more.Patch a.number a.hold
create_more (Err r) = more.Nothing

abbrev pub after_create : Run → Creation → Step
after_create r o = record {
  run = onward r phase.Opened o.table o.image o.undo (changes_after o.answer o.table.slots r.changes) r.committed;
  line = line_of r word.Create (answer_number o.answer) (create_more o.answer);
}

-- WRITE: a granted one adds how many patches went
abbrev pub write_more : Result ℕ Refusal → More
write_more (Ok s) = more.Patches (how_many (has s) slots)
write_more (Err r) = more.Nothing

abbrev pub after_write : Run → Writing → Step
after_write r o = record {
  run = onward r phase.Opened o.table o.image o.undo r.changes r.committed;
  line = line_of r word.Write (answer_number o.answer) (write_more o.answer);
}

-- the block that is lent to write: what is handed out is not printed
abbrev pub blank : List ℕ
blank = replicate block_bytes 0

-- COMPLETE: granted, the changes of the block's patches in flight have committed
abbrev pub changes_left : Result (Unit {0}) Refusal → ℕ → List ℕ → List ℕ
changes_left (Ok u) landed changes = cleared changes landed
changes_left (Err r) landed changes = changes

abbrev pub now_committed : Result (Unit {0}) Refusal → ℕ → List ℕ → ℕ → ℕ
now_committed (Ok u) landed changes committed = plus committed (carried changes landed)
now_committed (Err r) landed changes committed = committed

abbrev pub after_complete : Run → ℕ → Completion → Step
after_complete r b o = record {
  run = onward r phase.Opened o.table r.image r.undo (changes_left o.answer (landing r.table.slots b) r.changes)
      (now_committed o.answer (landing r.table.slots b) r.changes r.committed);
  line = line_of r word.Complete (answer_number o.answer) more.Nothing;
}

-- CUT: how many changes are on the store, those of landed writes and of those in flight whose block's bit is set
abbrev pub on_store : Run → ℕ → ℕ
on_store r bits = plus r.committed (carried r.changes (cut_landing r.table.slots bits))

abbrev pub after_cut : Run → ℕ → Step
after_cut r bits = record {
  run = onward r phase.Over r.table r.image r.undo r.changes r.committed;
  line = line_of r word.Cut (on_store r bits) more.Nothing;
}

-- the call of a record, made
pub data Makes (r : Run) : Call → Step → Type 0 where
  makes_open : {n : ℕ} (o : Opening) → Opens Board n o → Makes r (opens n) (after_open r o)
  makes_create : {c : Change} (o : Creation) → Creates r.table r.image r.undo c o → Makes r (creates c) (after_create r o)
  makes_write : {b : ℕ} (o : Writing) → Writes r.table r.image r.undo blank b o → Makes r (writes b) (after_write r o)
  makes_complete : {b : ℕ} (o : Completion) → Completes r.table b o → Makes r (completes b) (after_complete r b o)
  makes_cut : {s : ℕ} → Makes r (cuts s) (after_cut r s)

-- the bytes are the record of a call that fits, in its order
pub record Good (r : Run) (bytes : List ℕ) (c : Call) : Type 0 where
  pub fits : Fits c
  pub bytes_are : bytes ≡ record_of c
  pub in_order : is_in_order r.phase c ≡ true

-- place, "bad", 16, and the run is over
abbrev pub after_bad : Run → Step
after_bad r = record {
  run = record {
    phase = phase.Over;
    place = r.place;
    table = r.table;
    image = r.image;
    undo = r.undo;
    changes = r.changes;
    committed = r.committed;
  };
  line = line_of r word.Bad 16 more.Nothing;
}

-- what the bytes of one record come to
pub data Steps (r : Run) (bytes : List ℕ) : Step → Type 0 where
  takes : {c : Call} {s : Step} → Good r bytes c → Makes r c s → Steps r bytes s
  stops : ((c : Call) → Good r bytes c → ⊥) → Steps r bytes (after_bad r)
