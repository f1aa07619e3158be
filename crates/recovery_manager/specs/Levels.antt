-- How wide the next reboot is, over any list of acts.
use Rattle.std.specs.Prelude.{ℕ, ◌==◌, ◌&&◌, Bool, true, false, if◌then◌else◌, List}
use Rattle.std.specs.List.{list_any}
use Rattle.crash_base.specs.declared.numbers.GroupNo.{GroupNo}
use Rattle.crash_base.specs.declared.numbers.Level.{Level}
use Rattle.crash_base.specs.declared.numbers.Level.TheVariants.{Group, App, Process, Human}
use Rattle.crash_base.specs.declared.numbers.Moment.{Moment}
use Rattle.failure_scores.specs.Scores.{is_within}
use Rattle.recovery_manager.specs.declared.acts.TheConstants.{WIDENED_MILLISECONDS}
use Rattle.recovery_manager.specs.declared.acts.Act.{Act}

-- whether an act is recent: no more than thirty seconds passed since
abbrev pub is_recent : Moment → Act → Bool
is_recent now act = is_within WIDENED_MILLISECONDS act.moment now

-- whether two levels are one
abbrev pub same_level : Level → Level → Bool
same_level (Group g) (Group h) = g.0 == h.0
same_level App App = true
same_level Process Process = true
same_level Human Human = true
same_level a b = false

-- whether there is a recent act of this level
abbrev pub has_act : List Act → Level → Moment → Bool
has_act acts level now =
    list_any (λ (act : Act). is_recent now act && same_level act.level level) acts

-- The level of a group's next reboot: one wider than the widest recent act that the group was rebooted by. After a
-- reboot of the process, and after a call for a person, a person is called.
abbrev pub next_level : List Act → GroupNo → Moment → Level
next_level acts group now =
    if has_act acts Human now then Human
    else (if has_act acts Process now then Human
    else (if has_act acts App now then Process
    else (if has_act acts (Group group) now then App
    else Group group)))

-- whether a level reboots a group: a group's own level that group, and each other one all groups
abbrev pub level_holds : Level → ℕ → Bool
level_holds (Group h) g = h.0 == g
level_holds App g = true
level_holds Process g = true
level_holds Human g = true

-- how wide a level is: the wider, the greater
abbrev pub width : Level → ℕ
width (Group g) = 0
width App = 1
width Process = 2
width Human = 3

-- the level one wider; there is none wider than a person
abbrev pub one_wider : Level → Level
one_wider (Group g) = App
one_wider App = Process
one_wider Process = Human
one_wider Human = Human

-- whether an act counts for a group: it is recent, and its level reboots the group
abbrev pub counts_for : ℕ → Moment → Act → Bool
counts_for g now act = is_recent now act && level_holds act.level g
