-- ONE ANSWER: any two answers that the promise of `judge` admits are equal. That of `is_sound`, a Decides, needs no such law.
use Prim.Native.Nat.{ℕ}
use mathlib.Core.Path.{◌≡◌, refl, sym, ap, ◌∙◌}
use mathlib.Core.List.{List}
use Rattle.std.specs.Prelude.{Option, Some, None}
use Rattle.rules.specs.declared.Setting.{Setting}
use Rattle.rules.specs.declared.Slot.{Slot}
use Rattle.sound.specs.declared.types.InUse.{InUse}
use Rattle.sound.specs.Verdict.{IsVerdict, SoundWith}

in_use_one : {g : Setting} {first next : ℕ} {ss : List Slot} {v w : InUse} → SoundWith g first next ss v → SoundWith g first next ss w → v ≡ w
in_use_one p q = λ i. record { used = (p.used_slots ∙ sym q.used_slots) i; rooms = (p.taken-rooms ∙ sym q.taken-rooms) i }

pub verdict_one : {g : Setting} {first next : ℕ} {ss : List Slot} {v w : Option InUse} → IsVerdict g first next ss v → IsVerdict g first next ss w → v ≡ w
verdict_one {v = Some v} {w = Some w} p q = ap Some (in_use_one (p.sound v refl) (q.sound w refl))
verdict_one {v = Some v} {w = None} p q = absurd (q.unsound refl (p.sound v refl).sound)
verdict_one {v = None} {w = Some w} p q = absurd (p.unsound refl (q.sound w refl).sound)
verdict_one {v = None} {w = None} p q = refl
