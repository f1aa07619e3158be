use Rattle.std.proofs.Common.{arith, ◌≡◌, ◌∙◌, ◌+◌, ◌<◌, ◌^◌, ap, Option, sym, subst, length, None, Some, List}
use Rattle.std.specs.Option.{option_map_or}
use Rattle.outside.specs.Faults.{counted}
use Rattle.link_lanes.specs.Lanes.{lane_in, lane_of, SilencesFit}
use Rattle.link_lanes.proofs.Places.{lane_here, changed_here, lane_hushed, unknown_hushed}
use Rattle.link_memory.specs.Lane.{LaneValue, given, silent}
use Rattle.link_memory.specs.Script.{ScriptValue, IsQuiet, Gives, script_tally}
use Rattle.link_memory.proofs.script_link.ScriptLinkLink.receive.Goals as goal

pub returns-in-None : goal.returns-in-None
returns-in-None c =
    let here : List LaneValue → Type 0 = λ lanes. lane_in lanes c.args.from.0 ≡ None in
    let none : lane_of c.args.self.now c.args.from.0 ≡ None = subst here (c.deref.ensures.value ∙ ap (λ (l : ScriptValue). l.lanes) c.self.view_is) c.in-None.ensures in
    let fit : SilencesFit (script_tally c.args.self.now) c.args.from = record {
      of_brick = (let P : Option LaneValue → Type 0 = λ o. option_map_or (λ (l : LaneValue). l.silences) o c.args.self.now.unknown < 2 ^ 64 in subst P (sym none) c.hush_unknown.ensures.unknown_fits);
      of_all = c.hush_unknown.ensures.hushed_fits;
    } in
    let quiet : IsQuiet (lane_of c.args.self.now c.args.from.0) = (let P : Option LaneValue → Type 0 = λ o. IsQuiet o in subst P (sym none) tt) in
    (quiet, fit, c.hush_unknown.ensures.counts ∙ unknown_hushed silent c.args.self.now c.args.from none)

pub returns-in-Got : goal.returns-in-Got
returns-in-Got c =
    let s : ScriptValue = record { lanes = c.self.inside.lanes.items; unknown = c.self.inside.unknown; hushed = c.self.inside.hushed; got = c.self.inside.got } in
    let lane = c.index_mut.result.now in
    let at = c.in-Some.place in
    let number : at + 1 ≡ c.args.from.0 = c.in-Some.ensures.0 in
    let within : at < length s.lanes = (let P : List LaneValue → Type 0 = λ lanes. at < length lanes in subst P c.deref.ensures.value c.in-Some.ensures.1) in
    let here : lane_of s c.args.from.0 ≡ Some lane = lane_here s.lanes c.args.from.0 at lane number within c.index_mut.ensures.value in
    let gives : Gives c.receive.new.into (lane_of s c.args.from.0) = (let P : Option LaneValue → Type 0 = λ o. Gives c.receive.new.into o in subst P (sym here) c.in-Got.ensures.0) in
    rw (← c.self.view_is, c.in-Got.ensures.1, c.saturating_add-self-inside.ensures) (gives, omega arith, changed_here (record s { got = counted s.got }) c.args.from given at lane number within c.index_mut.ensures.value)

pub returns-in-Silent : goal.returns-in-Silent
returns-in-Silent c =
    let s : ScriptValue = record { lanes = c.self.inside.lanes.items; unknown = c.self.inside.unknown; hushed = c.self.inside.hushed; got = c.self.inside.got } in
    let lane = c.index_mut.result.now in
    let at = c.in-Some.place in
    let number : at + 1 ≡ c.args.from.0 = c.in-Some.ensures.0 in
    let within : at < length s.lanes = (let P : List LaneValue → Type 0 = λ lanes. at < length lanes in subst P c.deref.ensures.value c.in-Some.ensures.1) in
    let here : lane_of s c.args.from.0 ≡ Some lane = lane_here s.lanes c.args.from.0 at lane number within c.index_mut.ensures.value in
    let quiet : IsQuiet (lane_of s c.args.from.0) = (let P : Option LaneValue → Type 0 = λ o. IsQuiet o in subst P (sym here) c.in-Silent.ensures.0) in
    let fit : SilencesFit (script_tally s) c.args.from = record {
      of_brick = (let P : Option LaneValue → Type 0 = λ o. option_map_or (λ (l : LaneValue). l.silences) o s.unknown < 2 ^ 64 in subst P (sym here) c.in-Silent.ensures.1);
      of_all = omega arith;
    } in
    rw (← c.self.view_is, c.in-Silent.ensures.2, c.saturating_add-self-inside-in-Silent.ensures) (quiet, fit, lane_hushed silent s c.args.from at lane number within c.index_mut.ensures.value)
