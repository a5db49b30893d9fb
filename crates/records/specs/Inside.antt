-- Inside this crate, need not be believed: what its private functions promise each other. No public promise cites this file.
use Rattle.std.specs.Prelude.{ℕ, ◌≡◌, ◌≢◌, List, ◌++◌, Result, MatchResult}
use Rattle.records.specs.declared.tag.Tag.{Tag}
use Rattle.records.specs.declared.tag.Tag.TheVariants as tag
use Rattle.records.specs.declared.tag.UnknownTag.{UnknownTag}
use Rattle.records.specs.Record.{Call, high_first, record_of, In, Fits}
use Rattle.records.specs.Writer.{Recording, Records}

-- the byte of each tag, which is `tag_of` of the calls that it stands for
abbrev pub tag_number : Tag → ℕ
tag_number tag.Open = 1
tag_number tag.Create = 2
tag_number tag.Write = 3
tag_number tag.Complete = 4
tag_number tag.Cut = 5

-- a byte is a tag's, or no tag's
abbrev pub IsTagged : ℕ → Result Tag UnknownTag → Type 0
IsTagged byte r = MatchResult r (λ t. byte ≡ tag_number t) (λ _. (t : Tag) → byte ≢ tag_number t)

-- the record that is a tag and a block
abbrev pub block_bytes : ℕ → ℕ → List ℕ
block_bytes tag block = high_first 1 tag ++ (high_first 2 1 ++ high_first 1 block)

-- a call whose record is the tag and a block, and which fits where the block does
pub record OfBlock (tag block : ℕ) (c : Call) : Type 0 where
  pub bytes : record_of c ≡ block_bytes tag block
  pub fits : In 1 block → Fits c
  pub fits_not : Fits c → In 1 block

-- the outcome of every such call
abbrev pub BlockRecords : List ℕ → ℕ → ℕ → Recording → Type 0
BlockRecords buffer tag block o = (c : Call) → OfBlock tag block c → Records buffer c o
