-- What lines about sessions write.
use Rattle.std.specs.Prelude.{ℕ, List, ◌++◌, codes}
use Rattle.std.specs.Fmt.{decimal}
use Rattle.std.specs.List.{flat_map}
use Rattle.crash_base.specs.declared.numbers.Moment.{Moment}
use Rattle.scenario_text.specs.Texts.{hex_text}
use Rattle.send_windows.specs.declared.fact.WindowFact.{WindowFact}
use Rattle.session_cookie.specs.declared.cookie.Cookie.{Cookie}
use Rattle.session_cookie.specs.declared.cookie.Holder.{Holder}
use Rattle.session_lanes.specs.declared.lanes.HoldAnswer.{HoldAnswer}
use Rattle.session_lanes.specs.declared.lanes.HoldAnswer.TheVariants.{Held, Full}
use Rattle.ssm_stub.specs.declared.cause.BrickCause.{BrickCause}
use Rattle.ssm_stub.specs.declared.cause.Cause.{Cause}
use Rattle.ssm_stub.specs.declared.cause.Cause.TheVariants as cause

-- the word of a key, before what is said of it
abbrev pub key_text : ℕ → List ℕ
key_text key = codes "k" ++ decimal key

-- a brick that holds a value
abbrev pub holder_text : Holder → List ℕ
holder_text holder = codes " " ++ decimal holder.brick.0

-- what a write writes that was acknowledged: the version, and the bricks in the cookie's order
abbrev pub version_text : ℕ → Cookie → List ℕ
version_text key cookie =
    key_text key ++ codes " version " ++ decimal cookie.version.serial ++ codes " bricks"
    ++ flat_map holder_text cookie.bricks ++ codes "\n"

-- a brick with its window, and how many passes to it are in flight
abbrev pub fact_text : WindowFact → List ℕ
fact_text fact =
    codes " " ++ decimal fact.brick.0 ++ codes ":" ++ decimal fact.window ++ codes "/" ++ decimal fact.in_flight

-- what a write writes where too few windows are open: each full one, in order of number
abbrev pub overload_text : ℕ → List WindowFact → List ℕ
overload_text key full = key_text key ++ codes " overload" ++ flat_map fact_text full ++ codes "\n"

-- why a brick did not serve
abbrev pub reason_text : Cause → List ℕ
reason_text cause.Silent = codes "silent"
reason_text cause.Strayed = codes "strayed"
reason_text (cause.Full entries bytes) = codes "full/" ++ decimal entries ++ codes "/" ++ decimal bytes
reason_text (cause.Crashed incarnation) = codes "crashed/" ++ decimal incarnation
reason_text (cause.Swept moment) = codes "swept/" ++ decimal moment.0

-- a brick that did not serve, and why
abbrev pub cause_text : BrickCause → List ℕ
cause_text c = codes " " ++ decimal c.brick.0 ++ codes ":" ++ reason_text c.cause

-- what a write writes that too few bricks stored: each that did not with its cause, in asked order
abbrev pub missed_text : ℕ → List BrickCause → List ℕ
missed_text key causes = key_text key ++ codes " missed" ++ flat_map cause_text causes ++ codes "\n"

-- what a fetch writes that found the value
abbrev pub found_text : ℕ → List ℕ → List ℕ
found_text key value = key_text key ++ codes " found " ++ hex_text value ++ codes "\n"

-- what a fetch writes whose cookie has expired
abbrev pub expired_text : ℕ → Moment → Moment → List ℕ
expired_text key now expiry =
    key_text key ++ codes " expired " ++ decimal now.0 ++ codes " " ++ decimal expiry.0 ++ codes "\n"

-- what a fetch writes that no brick of the cookie served: each with its cause, in the cookie's order
abbrev pub lost_text : ℕ → List BrickCause → List ℕ
lost_text key causes = key_text key ++ codes " lost" ++ flat_map cause_text causes ++ codes "\n"

-- what is written of the cookie of a key
abbrev pub cookie_text : ℕ → List ℕ → List ℕ
cookie_text key text = key_text key ++ codes " cookie " ++ text ++ codes "\n"

-- what is written of how many values a brick keeps
abbrev pub values_text : ℕ → ℕ → List ℕ
values_text brick count = codes "values " ++ decimal brick ++ codes " " ++ decimal count ++ codes "\n"

-- what is written of the windows
abbrev pub windows_text : List WindowFact → List ℕ
windows_text facts = codes "windows" ++ flat_map fact_text facts ++ codes "\n"

-- what is written where a pass is held: how many passes to the brick are in flight by then
abbrev pub held_text : ℕ → ℕ → List ℕ
held_text brick in_flight = codes "held " ++ decimal brick ++ codes " " ++ decimal in_flight ++ codes "\n"

-- what is written where no pass is held: the window of the brick, and how many passes to it are in flight
abbrev pub closed_text : ℕ → ℕ → ℕ → List ℕ
closed_text brick window in_flight =
    codes "closed " ++ decimal brick ++ codes " " ++ decimal window ++ codes " " ++ decimal in_flight ++ codes "\n"

-- what is written where a pass to a brick is to be held
abbrev pub hold_text : ℕ → HoldAnswer → List ℕ
hold_text brick (Held in_flight) = held_text brick in_flight
hold_text brick (Full window in_flight) = closed_text brick window in_flight
