-- What lines about connections write.
use Rattle.std.specs.Prelude.{ℕ, List, [], ◌++◌, codes}
use Rattle.std.specs.Fmt.{decimal}
use Rattle.crash_base.specs.declared.numbers.Level.{Level}
use Rattle.crash_base.specs.declared.numbers.Level.TheVariants as levels
use Rattle.recovery_manager.specs.declared.decision.Decision.{Decision}
use Rattle.recovery_manager.specs.declared.decision.Decision.TheVariants as decided
use Rattle.scenario_text.specs.Texts.{hex_text}
use Rattle.shepherd.specs.declared.shepherd.EndKind.{EndKind}
use Rattle.shepherd.specs.declared.shepherd.EndKind.TheVariants as ends
use Rattle.site_responses.specs.declared.answer.Untaken.{Untaken}
use Rattle.site_responses.specs.declared.answer.Untaken.TheVariants as untaken

-- what a connection writes that puts out bytes
abbrev pub out_text : ℕ → List ℕ → List ℕ
out_text n bytes = codes "s" ++ decimal n ++ codes " out " ++ hex_text bytes ++ codes "\n"

-- what it writes where it was closed
abbrev pub closed_text : ℕ → List ℕ
closed_text n = codes "s" ++ decimal n ++ codes " closed\n"

-- what it writes where it ended otherwise, with the word for how
abbrev pub ended_text : ℕ → List ℕ → List ℕ
ended_text n kind = codes "s" ++ decimal n ++ codes " ended " ++ kind ++ codes "\n"

-- the word for why what followed is refused
abbrev pub untaken_word : Untaken → List ℕ
untaken_word untaken.Bad = codes "bad"
untaken_word untaken.TooLong = codes "toolong"
untaken_word untaken.BodyTooLong = codes "bodytoolong"
untaken_word untaken.NoCoding = codes "nocoding"

-- what a connection writes that is gone; where memory ran out the run ends instead
abbrev pub gone_text : ℕ → EndKind → List ℕ
gone_text n ends.Closed = closed_text n
gone_text n ends.Cut = ended_text n (codes "cut")
gone_text n (ends.Refused why) = ended_text n (untaken_word why)
gone_text n ends.OutOfMemory = []

-- what is written of a decision to reboot
abbrev pub reboot_text : Level → List ℕ
reboot_text (levels.Group g) = codes "decide group " ++ decimal g.0 ++ codes "\n"
reboot_text levels.App = codes "decide app\n"
reboot_text levels.Process = codes "decide process\n"
reboot_text levels.Human = codes "decide human\n"

-- what is written of a decision
abbrev pub decide_text : Decision → List ℕ
decide_text decided.None = codes "decide none\n"
decide_text (decided.Reboot level) = reboot_text level
