use Rattle.std.proofs.Common.{◌<◌, ◌≡◌, false, vec_len, rules}
use Rattle.journal_model.specs.Calls.{is_put}
use Rattle.journal_model.proofs.Replacing.{with_write-first}
use Rattle.call_ticket.specs.declared.limits.TheConstants.{MAX_WRITES}
use Rattle.call_ticket.proofs.Keeping.{kept_last, kept_over}
use Rattle.call_ticket.proofs.search.add_write.Goals as goal

pub push_reserved-requires : goal.push_reserved-requires
push_reserved-requires c =
    let new : is_put c.args.writes.now.items c.args.write.id ≡ false = kept_last c.args.writes.now.items c.deref.result.now c.args.write.id c.deref.ensures.value c.in-None.ensures in
    let free : vec_len c.args.writes.now < MAX_WRITES = c.requires.free new in
    search rules

pub returns-in-Some-clause-items : goal.returns-in-Some-clause-items
returns-in-Some-clause-items c = kept_over c.args.writes.now.items c.deref.result.now c.args.write c.in-Some.at c.deref.ensures.value c.in-Some.ensures

pub returns-in-None-clause-items : goal.returns-in-None-clause-items
returns-in-None-clause-items c =
    let new : is_put c.args.writes.now.items c.args.write.id ≡ false = kept_last c.args.writes.now.items c.deref.result.now c.args.write.id c.deref.ensures.value c.in-None.ensures in
    rw (with_write-first c.args.writes.now.items c.args.write new) (search rules)

pub returns-in-None-clause-few : goal.returns-in-None-clause-few
returns-in-None-clause-few c =
    let new : is_put c.args.writes.now.items c.args.write.id ≡ false = kept_last c.args.writes.now.items c.deref.result.now c.args.write.id c.deref.ensures.value c.in-None.ensures in
    let free : vec_len c.args.writes.now < MAX_WRITES = c.requires.free new in
    search rules
