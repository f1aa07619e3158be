use Rattle.std.proofs.Common.{◌∙◌, ap, sym, refl}
use Rattle.session_cookie.specs.Reading.{are_distinct}
use Rattle.session_cookie.proofs.Forms.{bricks_there, no_bricks_there}
use Rattle.session_cookie.proofs.Holders.{sizes_of}
use Rattle.session_cookie.proofs.form.bricks_of.Goals as goal

pub returns-then-not-has_sizes : goal.returns-then-not-has_sizes
returns-then-not-has_sizes c bricks tag h = let fits = c.if-not-has_sizes.ensures.1 (sizes_of c.args.count c.args.bytes.now bricks tag h) in cc

pub returns-then-are_distinct : goal.returns-then-are_distinct
returns-then-are_distinct c =
    bricks_there c.args.count c.args.bytes.now c.split_at.result.0.now c.split_at.result.1.now c.in_ok-holders.holders (record {
      count_is = c.in_ok-holders.ensures.0;
      each = c.in_ok-holders.ensures.1;
      spelled = c.in_ok-holders.ensures.2;
      front_is = c.split_at.ensures.front;
      back_is = c.split_at.ensures.back;
    }) (c.if-not-has_sizes.ensures.0 refl) (ap are_distinct (sym c.as_slice.ensures) ∙ sym c.are_distinct.ensures ∙ c.if-are_distinct.true)

pub returns : goal.returns
returns c bricks tag h =
    no_bricks_there c.args.count c.args.bytes.now c.split_at.result.0.now c.split_at.result.1.now c.in_ok-holders.holders bricks tag (record {
      count_is = c.in_ok-holders.ensures.0;
      each = c.in_ok-holders.ensures.1;
      spelled = c.in_ok-holders.ensures.2;
      front_is = c.split_at.ensures.front;
      back_is = c.split_at.ensures.back;
    }) (ap are_distinct (sym c.as_slice.ensures) ∙ sym c.are_distinct.ensures ∙ c.if-are_distinct.false) h
