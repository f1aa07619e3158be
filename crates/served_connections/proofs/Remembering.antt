-- A request that is taken off the bytes leaves whether memory was wanted.
use Rattle.std.proofs.Common.{◌≡◌, ℕ, List, ap}
use Rattle.http_wire.specs.declared.taken.Taken.{Taken}
use Rattle.http_wire.specs.declared.taken.Taken.TheVariants as took
use Rattle.outside.specs.declared.link.LinkCounts.{LinkCounts}
use Rattle.request_intake.specs.Intakes.{Gives, Looks}
use Rattle.request_intake.specs.declared.intake.HomeBoot.{HomeBoot}
use Rattle.shepherd.specs.Steps.{TakesBy}
use Rattle.shepherd.specs.declared.shepherd.Shepherd.{Shepherd}

pub takes_remembering : {P C R S : Type 0} (told : C → ℕ) (gives : Gives R) (looks : Looks S) (key : List ℕ) (home : HomeBoot) (counts : LinkCounts) (took_is : Taken) (s : Shepherd P) (clock : C) (random : R) (serials : S) (new : Shepherd P) (clock_after : C) (random_after : R) (serials_after : S)
    → TakesBy told gives looks key home counts took_is s clock random serials new clock_after random_after serials_after → new.wants_memory ≡ s.wants_memory
takes_remembering {P} told gives looks key home counts (took.Request head) s clock random serials new clock_after random_after serials_after takes = ap (λ (x : Shepherd P). x.wants_memory) takes.new_is
takes_remembering {P} told gives looks key home counts took.Bad s clock random serials new clock_after random_after serials_after takes = ap (λ (x : Shepherd P). x.wants_memory) takes.new_is
takes_remembering {P} told gives looks key home counts (took.TooLong len lines) s clock random serials new clock_after random_after serials_after takes = ap (λ (x : Shepherd P). x.wants_memory) takes.new_is
takes_remembering {P} told gives looks key home counts took.NoCoding s clock random serials new clock_after random_after serials_after takes = ap (λ (x : Shepherd P). x.wants_memory) takes.new_is
takes_remembering {P} told gives looks key home counts (took.BodyTooLong said) s clock random serials new clock_after random_after serials_after takes = ap (λ (x : Shepherd P). x.wants_memory) takes.new_is
takes_remembering told gives looks key home counts took.More s clock random serials new clock_after random_after serials_after takes = absurd takes
