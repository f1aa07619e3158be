use Rattle.std.proofs.Common.{◌≡◌, ◌∙◌, ◌≤◌, List, [], ◌∷◌, length, take, ap, arith, sym}
use Rattle.send_windows.specs.declared.fact.WindowFact.{WindowFact}
use Rattle.send_windows.specs.declared.history.WindowMark.TheVariants.{Taken, Refused}
use Rattle.send_windows.specs.Facts.{open_count, open_passes, round_from}
use Rattle.send_windows.specs.Windows.{WindowsValue, with_given, chosen}
use Rattle.send_windows.proofs.Keeping.{keep_mark, given_keeps, chosen_tally, are_taken}
use Rattle.send_windows.proofs.windows.Windows.take.Goals as goal

pub invariant_of-self-2 : goal.invariant_of-self-2
invariant_of-self-2 c =
    let s : WindowsValue = record { w = c.self.inside.w; wq = c.self.inside.wq; holds = c.self.inside.holds; facts = c.self.inside.facts.items; history = c.self.inside.history } in
    let opened : c.in_ok-passes.passes.items ≡ open_passes (round_from c.args.first c.self.inside.facts.items) =
    c.in_ok-passes.ensures.passes ∙ ap (λ (facts : List WindowFact). open_passes (round_from c.args.first facts)) c.deref.ensures.value in
    let passes : c.deref-2.result.now ≡ chosen s c.args.first = c.deref-2.ensures.value ∙ (c.truncate.ensures.items ∙ ap (take s.w) opened) in
    rw (c.give_all.ensures, c.put.ensures, passes) (keep_mark (with_given s (chosen s c.args.first)) (Taken c.len-2.result) (given_keeps s (chosen s c.args.first) c.self.invariant (chosen_tally s c.args.first)))

pub returns-clause-lawful : goal.returns-clause-lawful
returns-clause-lawful c =
    let s : WindowsValue = record { w = c.self.inside.w; wq = c.self.inside.wq; holds = c.self.inside.holds; facts = c.self.inside.facts.items; history = c.self.inside.history } in
    let opened : c.in_ok-passes.passes.items ≡ open_passes (round_from c.args.first c.self.inside.facts.items) =
    c.in_ok-passes.ensures.passes ∙ ap (λ (facts : List WindowFact). open_passes (round_from c.args.first facts)) c.deref.ensures.value in
    let count : length c.in_ok-passes.passes.items ≡ open_count s.facts = c.in_ok-passes.ensures.count ∙ ap open_count c.deref.ensures.value in
    let enough : s.wq ≤ open_count s.facts = (let size = c.len.ensures in let more = c.if-len-self.false in omega arith) in
    let passes : c.new-3.result ≡ chosen s c.args.first = c.new-3.ensures ∙ (c.truncate.ensures.items ∙ ap (take s.w) opened) in
    rw (← c.self.view_is) (rw passes (are_taken s c.args.first c.self.invariant enough))

pub returns-clause-grown : goal.returns-clause-grown
returns-clause-grown c = rw (← c.self.view_is) (Taken c.len-2.result ∷ [], sym c.put.ensures)

pub returns-then-len-self-clause-grown : goal.returns-then-len-self-clause-grown
returns-then-len-self-clause-grown c = rw (← c.self.view_is) (Refused ∷ [], sym c.in_ok-full.ensures.mark)
