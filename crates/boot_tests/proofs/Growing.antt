-- A boot that has grown goes on to grow.
use Rattle.std.proofs.Common.{◌≡◌, List, [], ◌++◌, refl, sym, ap, ◌∙◌, append_assoc, append-nil}
use Rattle.journal_model.specs.declared.entry.Entry.{Entry}
use Rattle.boot_core.specs.Boot.{BootValue, HasGrown}

pub as_it_was : (a : BootValue) → HasGrown a a
as_it_was a = record { start = refl; more = []; entries = sym (append-nil a.entries) }

pub grown_on : (a b c : BootValue) → HasGrown a b → HasGrown b c → HasGrown a c
grown_on a b c first then = record {
  start = then.start ∙ first.start;
  more = first.more ++ then.more;
  entries = then.entries ∙ ap (λ (es : List Entry). es ++ then.more) first.entries ∙ append_assoc a.entries first.more then.more;
}
