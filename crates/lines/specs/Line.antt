-- A line of the replay as document 02 spells it: "2 create 0 1 hard", as ASCII bytes, with a newline at its end.
use Rattle.std.specs.Prelude.{ℕ, List, [], ◌∷◌, ◌++◌}
use Rattle.rules.specs.declared.Hold.{Hold}
use Rattle.rules.specs.declared.Hold.TheVariants as hold
use Rattle.lines.specs.declared.types.Word.{Word}
use Rattle.lines.specs.declared.types.Word.TheVariants as word
use Rattle.lines.specs.declared.types.More.{More}
use Rattle.lines.specs.declared.types.More.TheVariants as more
use Rattle.lines.specs.declared.types.Line.{Line}
use Rattle.lines.specs.Decimal.{decimal}

abbrev pub space : List ℕ
space = 32 ∷ []

abbrev pub newline : List ℕ
newline = 10 ∷ []

-- "open", "create", "write", "complete", "cut", "bad"
unfoldable pub word_text : Word → List ℕ
word_text word.Open = 111 ∷ 112 ∷ 101 ∷ 110 ∷ []
word_text word.Create = 99 ∷ 114 ∷ 101 ∷ 97 ∷ 116 ∷ 101 ∷ []
word_text word.Write = 119 ∷ 114 ∷ 105 ∷ 116 ∷ 101 ∷ []
word_text word.Complete = 99 ∷ 111 ∷ 109 ∷ 112 ∷ 108 ∷ 101 ∷ 116 ∷ 101 ∷ []
word_text word.Cut = 99 ∷ 117 ∷ 116 ∷ []
word_text word.Bad = 98 ∷ 97 ∷ 100 ∷ []

-- "hard", "soft": the room is not told
unfoldable pub hold_text : Hold → List ℕ
hold_text hold.Hard = 104 ∷ 97 ∷ 114 ∷ 100 ∷ []
hold_text (hold.Soft r) = 115 ∷ 111 ∷ 102 ∷ 116 ∷ []

-- what a granted write or create adds
unfoldable pub more_text : More → List ℕ
more_text more.Nothing = []
more_text (more.Patches n) = space ++ decimal n
more_text (more.Patch n h) = space ++ decimal n ++ space ++ hold_text h

-- the place, the word, the answer's number, what is added, and the line's end
unfoldable pub text_of : Line → List ℕ
text_of l = decimal l.place ++ space ++ word_text l.word ++ space ++ decimal l.number ++ more_text l.more ++ newline
