-- Texts laid one after the other are one text laid. Assumes nothing.
use Prim.Native.Nat.{ℕ}
use mathlib.Core.Path.{◌≡◌, refl, sym, subst, ◌∙◌}
use mathlib.Core.List.{List, [], ◌++◌, append_assoc}
use native.Mathlib.Omega.{arith}
use lib.ListN.{length, length-append}
use Rattle.spans.proofs.Laws.{splice_none, laid}
use Rattle.lines.specs.declared.types.Line.{Line}
use Rattle.lines.specs.Decimal.{decimal}
use Rattle.lines.specs.Line.{space, newline, word_text, more_text, text_of}
use Rattle.lines.specs.declared.text.Text.{Text}
use Rattle.lines.specs.Laid.{Laid, Adds}

-- a text that is right after another, in any bytes
pub laid_then : {was then now ys zs : List ℕ} {at m r : ℕ} → Laid was at ys then m → Laid then m zs now r → Laid was at (ys ++ zs) now r
laid_then {was} {then} {now} {ys} {zs} {at} {m} {r} o q = record {
  bytes = (laid (length ys) zs (record { is = o.bytes }) (rw o.next at q.bytes) refl).is;
  next = rw (length-append ys zs) (omega (arith, o.next, q.next));
  size = q.size ∙ o.size;
}

pub laid_same : {was now ys zs : List ℕ} {at r : ℕ} → Laid was at ys now r → ys ≡ zs → Laid was at zs now r
laid_same {was} {now} {ys} {zs} {at} {r} o e = subst (λ (t : List ℕ). Laid was at t now r) e o

-- in a line's text
pub and_then : {was then now : Text} {ys zs : List ℕ} → Adds ys was then → Adds zs then now → Adds (ys ++ zs) was now
and_then o q = record { laid = laid_then o.laid q.laid; lent = q.lent ∙ o.lent }

pub same_text : {was now : Text} {ys zs : List ℕ} → Adds ys was now → ys ≡ zs → Adds zs was now
same_text o e = record { laid = laid_same o.laid e; lent = o.lent }

pub nothing_added : (was : Text) → Adds [] was was
nothing_added was = record { laid = record { bytes = sym (splice_none was.buffer.now was.len); next = omega arith; size = refl }; lent = refl }

-- a line in the parts in which it is laid
pub in_parts : (l : Line)
    → decimal l.place ++ (space ++ word_text l.word ++ space) ++ decimal l.number ++ more_text l.more ++ newline ≡ text_of l
unfolding text_of
in_parts l = simp append_assoc
