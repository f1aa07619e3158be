use Rattle.std.proofs.Common.{◌≡◌, ◌∙◌, ◌+◌, ◌<◌, ◌^◌, ap, rules, Option, IsSome, sym, subst, length, None, Some, List}
use Rattle.std.specs.Option.{option_map_or}
use Rattle.link_lanes.specs.Lanes.{lane_in, lane_of, SilencesFit}
use Rattle.link_lanes.proofs.Places.{lane_here, changed_here, set_back, unknown_hushed}
use Rattle.link_memory.specs.Lane.{LaneValue, asked, silent}
use Rattle.link_memory.specs.Script.{ScriptValue, script_tally}
use Rattle.link_memory.proofs.script_link.ScriptLinkLink.send.Goals as goal
use Rattle.link_memory.proofs.script_link.ScriptLinkLink.send.Goals.{in-Ok, in-Err}

pub returns-in-None : goal.returns-in-None
returns-in-None c =
    let here : List LaneValue → Type 0 = λ lanes. lane_in lanes c.args.to.0 ≡ None in
    let none : lane_of c.args.self.now c.args.to.0 ≡ None = subst here (c.deref.ensures.value ∙ ap (λ (l : ScriptValue). l.lanes) c.self.view_is) c.in-None.ensures in
    let fit : SilencesFit (script_tally c.args.self.now) c.args.to = record {
      of_brick = (let P : Option LaneValue → Type 0 = λ o. option_map_or (λ (l : LaneValue). l.silences) o c.args.self.now.unknown < 2 ^ 64 in subst P (sym none) c.hush_unknown.ensures.unknown_fits);
      of_all = c.hush_unknown.ensures.hushed_fits;
    } in
    (none, fit, c.hush_unknown.ensures.counts ∙ unknown_hushed silent c.args.self.now c.args.to none)

pub returns-after-ask : goal.returns-after-ask
returns-after-ask c =
    let s : ScriptValue = record { lanes = c.self.inside.lanes.items; unknown = c.self.inside.unknown; hushed = c.self.inside.hushed; got = c.self.inside.got } in
    let lane = c.index_mut.result.now in
    let at = c.in-Some.place in
    let number : at + 1 ≡ c.args.to.0 = c.in-Some.ensures.0 in
    let within : at < length s.lanes = (let P : List LaneValue → Type 0 = λ lanes. at < length lanes in subst P c.deref.ensures.value c.in-Some.ensures.1) in
    let here : lane_of s c.args.to.0 ≡ Some lane = lane_here s.lanes c.args.to.0 at lane number within c.index_mut.ensures.value in
    let there : IsSome (lane_of s c.args.to.0) = (let P : Option LaneValue → Type 0 = λ o. IsSome o in subst P (sym here) (search rules)) in
    elim c.match-ask.branch [
      | in-Ok w ↦ rw (← c.self.view_is, w.result-is, w.in-Ok.ensures.ok) (there, changed_here s c.args.to (asked c.args.frame.now) at lane number within c.index_mut.ensures.value)
      | in-Err w ↦ rw (← c.self.view_is, w.result-is, w.in-Err.ensures.err) (ap (λ (lanes : List LaneValue). record s { lanes = lanes }) (set_back s.lanes at lane c.index_mut.ensures.value))
    ]
