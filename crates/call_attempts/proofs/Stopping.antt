-- What stops a step, and that a step comes to one thing alone.
use Rattle.std.specs.Prelude.{option_map}
use Rattle.std.proofs.Common.{◌≡◌, ◌≢◌, ◌↔◌, ℕ, List, [], ◌∷◌, Option, Some, None, refl, sym, ap, ◌∙◌}
use Rattle.crash_base.specs.Refusals.{first_of}
use Rattle.crash_base.specs.declared.fault_plans.FaultKind.{FaultKind}
use Rattle.crash_base.specs.declared.fault_plans.FaultKind.TheVariants.{Raise, Hang, Leak}
use Rattle.crash_base.specs.declared.numbers.ComponentNo.{ComponentNo}
use Rattle.crash_base.specs.declared.numbers.GroupNo.{GroupNo}
use Rattle.crash_base.specs.declared.numbers.Place.{Place}
use Rattle.deployment.specs.Groups.{group_of, group_no}
use Rattle.journal_model.specs.declared.entry.DoneText.{DoneText}
use Rattle.journal_model.specs.declared.stale.Stale.{Stale}
use Rattle.journal_model.specs.Calls.{Call}
use Rattle.journal_model.specs.Reboots.{down_of}
use Rattle.journal_model.specs.Stale.{stale_in}
use Rattle.call_ticket.specs.declared.next.Answer.{Answer}
use Rattle.call_ticket.specs.declared.next.Next.{Next}
use Rattle.call_ticket.specs.declared.next.Next.TheVariants as next
use Rattle.boot_core.specs.Boot.{BootValue}
use Rattle.boot_core.specs.Faults.{fault_of}
use Rattle.call_attempts.specs.Attempt.{AttemptValue, Continues, HasStepped, boot_left, stepped, stop_of_attempt, wanted}
use Rattle.call_attempts.specs.Stops.{down_stops, failure, fault_stops, stop_of}
use Rattle.call_attempts.specs.declared.attempt.Stepped.{Stepped}
use Rattle.call_attempts.specs.declared.attempt.Stepped.TheVariants.{Went, Done, Stopped}
use Rattle.call_attempts.specs.declared.stop.Stop.{Stop}
use Rattle.call_attempts.specs.declared.stop.Stop.TheVariants.{Revoked, Sentinel, Hung, Raised}

-- the first stop of a stale touch, if there is one, of a group that is down, and of a component that fails
abbrev First : Option Stale → Option Stop → Option Stop → Option Stop
First stale down fault = first_of (option_map (λ (s : Stale). Revoked s) stale ∷ down ∷ fault ∷ [])

-- a stop by a group that is down, if one is
abbrev ByDown : GroupNo → Option Place → Option Stop
ByDown g d = option_map (λ (p : Place). Sentinel g p) d

-- a step enters a component of a group that is down
abbrev MeetsDown : BootValue → Next → GroupNo → Place → Type 0
MeetsDown b x group down =
    (c : ComponentNo) × (m : ℕ) × (x ≡ next.Enter c m) × (group ≡ group_no (group_of b.start.deployment c.0)) × (down_of b.entries (group_of b.start.deployment c.0) ≡ Some down)

-- a step enters a component of a group that is not down, and that fails
abbrev pub MeetsFault : BootValue → Next → ComponentNo → ℕ → FaultKind → Type 0
MeetsFault b x c fault kind =
    (m : ℕ) × (x ≡ next.Enter c m) × (down_of b.entries (group_of b.start.deployment c.0) ≡ None) × (fault_of b c ≡ Some (fault, kind))

-- neither a group that is down nor a component that fails tells a revoke
never_revoked : (g : GroupNo) (c : ComponentNo) (d : Option Place) (f : Option (ℕ × FaultKind)) (shown : Stale) → First None (ByDown g d) (failure c f) ≢ Some (Revoked shown)
never_revoked g c (Some p) f shown e = absurd (cc)
never_revoked g c None None shown e = absurd (cc)
never_revoked g c None (Some (n, Raise)) shown e = absurd (cc)
never_revoked g c None (Some (n, Hang)) shown e = absurd (cc)
never_revoked g c None (Some (n, Leak)) shown e = absurd (cc)

revoked_by : (b : BootValue) (stale : Option Stale) (x : Next) (shown : Stale) → First stale (down_stops b.start.deployment b.entries x) (fault_stops b x) ≡ Some (Revoked shown) → stale ≡ Some shown
revoked_by b (Some s) x shown e = cc
revoked_by b None (next.Enter c m) shown e =
    absurd (never_revoked (group_no (group_of b.start.deployment c.0)) c (down_of b.entries (group_of b.start.deployment c.0)) (fault_of b c) shown e)
revoked_by b None (next.Read id) shown e = absurd (cc)
revoked_by b None (next.List t) shown e = absurd (cc)
revoked_by b None (next.Put w) shown e = absurd (cc)
revoked_by b None next.Exit shown e = absurd (cc)
revoked_by b None (next.Done d) shown e = absurd (cc)

pub revoked_is : (b : BootValue) (call : Call) (x : Next) (shown : Stale)
    → (stop_of b call x ≡ Some (Revoked shown)) ↔ (stale_in b.entries call.touched ≡ Some shown)
revoked_is b call x shown =
    (revoked_by b (stale_in b.entries call.touched) x shown, λ is. ap (λ (s : Option Stale). First s (down_stops b.start.deployment b.entries x) (fault_stops b x)) is)

-- which group is down, and by which Down
is_down : (g group : GroupNo) (c : ComponentNo) (d : Option Place) (f : Option (ℕ × FaultKind)) (down : Place)
    → First None (ByDown g d) (failure c f) ≡ Some (Sentinel group down) → (group ≡ g) × (d ≡ Some down)
is_down g group c (Some p) f down e = (cc, cc)
is_down g group c None None down e = absurd (cc)
is_down g group c None (Some (n, Raise)) down e = absurd (cc)
is_down g group c None (Some (n, Hang)) down e = absurd (cc)
is_down g group c None (Some (n, Leak)) down e = absurd (cc)

sentinel_by : (b : BootValue) (stale : Option Stale) (x : Next) (group : GroupNo) (down : Place) → First stale (down_stops b.start.deployment b.entries x) (fault_stops b x) ≡ Some (Sentinel group down)
    → (stale ≡ None) × MeetsDown b x group down
sentinel_by b (Some s) x group down e = absurd (cc)
sentinel_by b None (next.Enter c m) group down e =
    let found = is_down (group_no (group_of b.start.deployment c.0)) group c (down_of b.entries (group_of b.start.deployment c.0)) (fault_of b c) down e in
    (refl, (c, m, refl, found.0, found.1))
sentinel_by b None (next.Read id) group down e = absurd (cc)
sentinel_by b None (next.List t) group down e = absurd (cc)
sentinel_by b None (next.Put w) group down e = absurd (cc)
sentinel_by b None next.Exit group down e = absurd (cc)
sentinel_by b None (next.Done d) group down e = absurd (cc)

sentinel_so : (b : BootValue) (stale : Option Stale) (x : Next) (group : GroupNo) (down : Place) → stale ≡ None → MeetsDown b x group down
    → First stale (down_stops b.start.deployment b.entries x) (fault_stops b x) ≡ Some (Sentinel group down)
sentinel_so b stale x group down fresh (c, m, enters, is, held) =
    rw (fresh, enters, is, held) refl

pub sentinel_is : (b : BootValue) (call : Call) (x : Next) (group : GroupNo) (down : Place)
    → (stop_of b call x ≡ Some (Sentinel group down)) ↔ ((stale_in b.entries call.touched ≡ None) × MeetsDown b x group down)
sentinel_is b call x group down =
    (sentinel_by b (stale_in b.entries call.touched) x group down, λ h. sentinel_so b (stale_in b.entries call.touched) x group down h.0 h.1)

-- which component fails, and by which plan
abbrev Fails : ComponentNo → ComponentNo → Option Place → Option (ℕ × FaultKind) → ℕ → FaultKind → Type 0
Fails c shown d f fault kind = (shown ≡ c) × (d ≡ None) × (f ≡ Some (fault, kind))

is_hung : (g : GroupNo) (c shown : ComponentNo) (d : Option Place) (f : Option (ℕ × FaultKind)) (fault : ℕ)
    → First None (ByDown g d) (failure c f) ≡ Some (Hung shown fault) → Fails c shown d f fault Hang
is_hung g c shown (Some p) f fault e = absurd (cc)
is_hung g c shown None None fault e = absurd (cc)
is_hung g c shown None (Some (n, Raise)) fault e = absurd (cc)
is_hung g c shown None (Some (n, Hang)) fault e = (cc, refl, cc)
is_hung g c shown None (Some (n, Leak)) fault e = absurd (cc)

is_raised : (g : GroupNo) (c shown : ComponentNo) (d : Option Place) (f : Option (ℕ × FaultKind)) (fault : ℕ)
    → First None (ByDown g d) (failure c f) ≡ Some (Raised shown fault) → Fails c shown d f fault Raise
is_raised g c shown (Some p) f fault e = absurd (cc)
is_raised g c shown None None fault e = absurd (cc)
is_raised g c shown None (Some (n, Raise)) fault e = (cc, refl, cc)
is_raised g c shown None (Some (n, Hang)) fault e = absurd (cc)
is_raised g c shown None (Some (n, Leak)) fault e = absurd (cc)

-- so a step that enters it meets the fault
meets : (b : BootValue) (c shown : ComponentNo) (m fault : ℕ) (kind : FaultKind) → Fails c shown (down_of b.entries (group_of b.start.deployment c.0)) (fault_of b c) fault kind
    → MeetsFault b (next.Enter c m) shown fault kind
meets b c shown m fault kind (is, up, fails) = rw is (m, refl, up, fails)

hung_by : (b : BootValue) (stale : Option Stale) (x : Next) (shown : ComponentNo) (fault : ℕ) → First stale (down_stops b.start.deployment b.entries x) (fault_stops b x) ≡ Some (Hung shown fault)
    → (stale ≡ None) × MeetsFault b x shown fault Hang
hung_by b (Some s) x shown fault e = absurd (cc)
hung_by b None (next.Enter c m) shown fault e =
    (refl, meets b c shown m fault Hang (is_hung (group_no (group_of b.start.deployment c.0)) c shown (down_of b.entries (group_of b.start.deployment c.0)) (fault_of b c) fault e))
hung_by b None (next.Read id) shown fault e = absurd (cc)
hung_by b None (next.List t) shown fault e = absurd (cc)
hung_by b None (next.Put w) shown fault e = absurd (cc)
hung_by b None next.Exit shown fault e = absurd (cc)
hung_by b None (next.Done d) shown fault e = absurd (cc)

raised_by : (b : BootValue) (stale : Option Stale) (x : Next) (shown : ComponentNo) (fault : ℕ) → First stale (down_stops b.start.deployment b.entries x) (fault_stops b x) ≡ Some (Raised shown fault)
    → (stale ≡ None) × MeetsFault b x shown fault Raise
raised_by b (Some s) x shown fault e = absurd (cc)
raised_by b None (next.Enter c m) shown fault e =
    (refl, meets b c shown m fault Raise (is_raised (group_no (group_of b.start.deployment c.0)) c shown (down_of b.entries (group_of b.start.deployment c.0)) (fault_of b c) fault e))
raised_by b None (next.Read id) shown fault e = absurd (cc)
raised_by b None (next.List t) shown fault e = absurd (cc)
raised_by b None (next.Put w) shown fault e = absurd (cc)
raised_by b None next.Exit shown fault e = absurd (cc)
raised_by b None (next.Done d) shown fault e = absurd (cc)

-- a step that meets a fault is stopped by it, where the call is not stale
fault_so : (b : BootValue) (stale : Option Stale) (x : Next) (c : ComponentNo) (fault : ℕ) (kind : FaultKind) → stale ≡ None → MeetsFault b x c fault kind
    → First stale (down_stops b.start.deployment b.entries x) (fault_stops b x) ≡ failure c (Some (fault, kind))
fault_so b stale x c fault Raise fresh (m, enters, up, fails) = rw (fresh, enters, up, fails) refl
fault_so b stale x c fault Hang fresh (m, enters, up, fails) = rw (fresh, enters, up, fails) refl
fault_so b stale x c fault Leak fresh (m, enters, up, fails) = rw (fresh, enters, up, fails) refl

pub hung_is : (b : BootValue) (call : Call) (x : Next) (c : ComponentNo) (fault : ℕ)
    → (stop_of b call x ≡ Some (Hung c fault)) ↔ ((stale_in b.entries call.touched ≡ None) × MeetsFault b x c fault Hang)
hung_is b call x c fault =
    (hung_by b (stale_in b.entries call.touched) x c fault, λ h. fault_so b (stale_in b.entries call.touched) x c fault Hang h.0 h.1)

pub raised_is : (b : BootValue) (call : Call) (x : Next) (c : ComponentNo) (fault : ℕ)
    → (stop_of b call x ≡ Some (Raised c fault)) ↔ ((stale_in b.entries call.touched ≡ None) × MeetsFault b x c fault Raise)
raised_is b call x c fault =
    (raised_by b (stale_in b.entries call.touched) x c fault, λ h. fault_so b (stale_in b.entries call.touched) x c fault Raise h.0 h.1)

-- a step ends the call, or goes on
some_step : (boot : BootValue) (asks : List Answer → Next) (a : AttemptValue) (o : Option Stop) → stop_of_attempt boot asks a ≡ o → Continues (wanted asks a)
    → (came : Stepped) × (after : AttemptValue) × HasStepped boot asks a came after
some_step boot asks a None is on = (Went, stepped boot a (wanted asks a), (on, is, refl))
some_step boot asks a (Some stop) is on = (Stopped stop, a, (on, is, refl))

pub steps_somehow : (boot : BootValue) (asks : List Answer → Next) (a : AttemptValue) → (came : Stepped) × (after : AttemptValue) × HasStepped boot asks a came after
steps_somehow boot asks a = go (wanted asks a) refl
  where
    on : (x : Next) → wanted asks a ≡ x → Continues x → (came : Stepped) × (after : AttemptValue) × HasStepped boot asks a came after
    on x is goes = some_step boot asks a (stop_of_attempt boot asks a) refl (rw is goes)

    go : (x : Next) → wanted asks a ≡ x → (came : Stepped) × (after : AttemptValue) × HasStepped boot asks a came after
    go (next.Done d) is = (Done d, a, (is, refl))
    go (next.Enter c m) is = on (next.Enter c m) is tt
    go (next.Read id) is = on (next.Read id) is tt
    go (next.List t) is = on (next.List t) is tt
    go (next.Put w) is = on (next.Put w) is tt
    go next.Exit is = on next.Exit is tt

-- a step that ends a call does not go on
ends_not : (asks : List Answer → Next) (a : AttemptValue) (d : DoneText) → wanted asks a ≡ next.Done d → Continues (wanted asks a) → ⊥
ends_not asks a d is on = rw is at on

one_way : (boot : BootValue) (asks : List Answer → Next) (a after other : AttemptValue) (came went : Stepped) → HasStepped boot asks a came after → HasStepped boot asks a went other
    → (came ≡ went) × (after ≡ other)
one_way boot asks a after other Went Went x y = (refl, x.2 ∙ sym y.2)
one_way boot asks a after other Went (Done d) x y = absurd (ends_not asks a d y.0 x.0)
one_way boot asks a after other Went (Stopped s) x y = absurd (let n = x.1 in let m = y.1 in cc)
one_way boot asks a after other (Done d) Went x y = absurd (ends_not asks a d x.0 y.0)
one_way boot asks a after other (Done d) (Done e) x y = (let n = x.0 in let m = y.0 in cc, x.1 ∙ sym y.1)
one_way boot asks a after other (Done d) (Stopped s) x y = absurd (ends_not asks a d x.0 y.0)
one_way boot asks a after other (Stopped s) Went x y = absurd (let n = x.1 in let m = y.1 in cc)
one_way boot asks a after other (Stopped s) (Done d) x y = absurd (ends_not asks a d y.0 x.0)
one_way boot asks a after other (Stopped s) (Stopped r) x y = (let n = x.1 in let m = y.1 in cc, x.2 ∙ sym y.2)

pub steps_one_way : (boot : BootValue) (asks : List Answer → Next) (a after other : AttemptValue) (came went : Stepped) → HasStepped boot asks a came after → HasStepped boot asks a went other
    → (came ≡ went) × (after ≡ other) × (boot_left boot (wanted asks a) came ≡ boot_left boot (wanted asks a) went)
steps_one_way boot asks a after other came went x y =
    let one = one_way boot asks a after other came went x y in
    (one.0, one.1, ap (λ (s : Stepped). boot_left boot (wanted asks a) s) one.0)
