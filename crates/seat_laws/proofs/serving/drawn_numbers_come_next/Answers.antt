use Rattle.std.proofs.Common.{◌^◌, sym}
use Rattle.std.proofs.Math.Nat.{mod-eq_of_lt}
use Rattle.seat_laws.proofs.ServingDraws.{serial-after, serial-here, word-after, word-here}
use Rattle.seat_laws.proofs.serving.drawn_numbers_come_next.Goals as goal

pub returns-clause-serial : goal.returns-clause-serial
returns-clause-serial c = λ w after before behind d drew is. serial-here w.serial w.word before behind d after.serial after.word drew is

pub returns-clause-word : goal.returns-clause-word
returns-clause-word c = λ w after before behind d word drew is.
    word-here w.serial w.word w.word before behind d after.serial after.word (sym (mod-eq_of_lt {n = w.word} {m = 2 ^ 64} word)) drew is

pub returns-clause-next : goal.returns-clause-next
returns-clause-next c = λ w after drawn word drew. (
  serial-after w.serial w.word drawn after.serial after.word drew,
  word-after w.serial w.word w.word drawn after.serial after.word (sym (mod-eq_of_lt {n = w.word} {m = 2 ^ 64} word)) drew,
)
