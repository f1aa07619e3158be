use Rattle.std.proofs.Common.{◌≢◌, ℕ, Some, Ok, Err, OnErr, sym, ap, subst, arith}
use Rattle.slab.specs.Slab.{Slab, Updates}
use Rattle.component_pool.specs.declared.chains.Linked.{Linked}
use Rattle.component_pool.specs.Chains.{NoneIdle, shown}
use Rattle.component_pool.specs.Instances.{HasTaken, idle_of, instance_in}
use Rattle.component_pool.proofs.Shown.{shown_some, taken_idle, taken_new, added_chained, none_shown}
use Rattle.component_pool.proofs.instances.take.Goals as goal

pub returns-in-Some-clause-taken : goal.returns-in-Some-clause-taken
returns-in-Some-clause-taken c =
    let t = c.in-Some.ensures.taken in
    taken_idle c.args.slab.now c.take_idle.new.slab c.args.c c.args.generation c.in-Some.key t.0 t.1 t.2
    (c.requires.present c.in-Some.key t.0.instance (shown_some c.args.slab.now.slots c.in-Some.key t.0 t.1.found) t.1.idle t.1.own)

pub returns-in_ok-key-in-None-clause-taken : goal.returns-in_ok-key-in-None-clause-taken
returns-in_ok-key-in-None-clause-taken c =
    let old = c.take_idle.new.slab in
    let new = c.insert.new.self in
    let key = c.in_ok-key-in-None.key in
    let same = c.in-None.ensures.none.1 in
    let P : Slab Linked → Type 0 = λ s. HasTaken (shown s.slots) (shown new.slots) c.args.c c.args.generation key in
    let Q : Slab Linked → Type 0 = λ s. NoneIdle s.slots c.args.c.0 in
    let R : Linked → Type 0 = λ l. Updates old new key (Some l) in
    subst P same
    (taken_new old new c.args.c c.args.generation key (subst Q (sym same) c.in-None.ensures.none.0) c.in_ok-key-in-None.ensures.was_vacant (subst R c.taken.ensures c.in_ok-key-in-None.ensures.updates))

pub returns-in_ok-key-in-None-clause-chained : goal.returns-in_ok-key-in-None-clause-chained
returns-in_ok-key-in-None-clause-chained c =
    added_chained c.take_idle.new.slab c.insert.new.self c.take_idle.new.firsts c.in_ok-key-in-None.key c.taken.result c.take_idle.ensures.chained c.in_ok-key-in-None.ensures.was_vacant
    (ap (λ (l : Linked). l.instance.is_taken) c.taken.ensures)
    (omega (arith, c.requires.own, ap (λ (l : Linked). l.instance.component.0) c.taken.ensures))
    c.in_ok-key-in-None.ensures.updates

pub returns-in_err-key-in-None-clause-wanted : goal.returns-in_err-key-in-None-clause-wanted
returns-in_err-key-in-None-clause-wanted c =
    let none = none_shown c.args.slab.now.slots c.args.c c.args.generation c.in-None.ensures.none.0 in
    elim c.from_residual.result as (λ r. OnErr r ((m : ℕ) → instance_in (shown c.args.slab.now.slots) m ≢ Some (idle_of c.args.c c.args.generation))) [
      | Ok key ↦ tt
      | Err e ↦ none
    ]
