-- The events of a journal and its marks.
use Rattle.std.proofs.Common.{◌≡◌, ℕ, ◌+◌, ◌-◌, ◌≤◌, Bool, true, false, ◌||◌, List, [], ◌∷◌, ◌++◌, length, take, drop, map, refl, sym, ◌∙◌, ap, arith, length-append, length-drop, append_assoc, append-nil}
use Rattle.std.proofs.lemmas.List.{map-append, drop-drop, drop-append-le, take-append-le, take-append-drop, take_rest, drop_at, length-map, length-take-le}
use Rattle.std.proofs.lemmas.List.Concat.{flat_map-append}
use Rattle.std.proofs.lemmas.List.Elements.{filter-append}
use Rattle.std.proofs.lemmas.List.Folds.{list_any-append}
use Rattle.std.specs.List.{filter}
use Rattle.std.specs.Prelude.{cond}
use Rattle.crash_base.specs.declared.numbers.Place.{Place}
use Rattle.crash_base.specs.declared.numbers.RequestNo.{RequestNo}
use Rattle.journal_model.specs.declared.entry.Entry.{Entry}
use Rattle.container_core.specs.History.{entry_in, entries_in, is_stop, is_stopped, is_stop_mark, has_stop, stop_count, is_start, IsHistory, event_of, mark_at, laid, AreLaid}
use Rattle.container_core.specs.declared.history.Event.{Event}
use Rattle.container_core.specs.declared.history.Event.TheVariants.{Added}
use Rattle.container_core.specs.declared.history.HistoryMark.{HistoryMark}
use Rattle.container_core.specs.declared.history.MarkedEvent.{MarkedEvent}
use Rattle.container_core.specs.declared.history.MarkedEvent.TheVariants.{KeeperFailed, Stopped}

entries_in-added : (es : List Entry) → entries_in (map Added es) ≡ es
entries_in-added [] = refl
entries_in-added (e ∷ es) = ap (λ x. e ∷ x) (entries_in-added es)

-- a mark is no entry
entry_in-mark : (m : MarkedEvent) → entry_in (event_of m) ≡ []
entry_in-mark (KeeperFailed r) = refl
entry_in-mark Stopped = refl

entries_in-laid : (from : ℕ) (es : List Entry) (ms : List HistoryMark) → AreLaid from ms (length es) → entries_in (laid from es ms) ≡ drop from es
entries_in-laid from es [] fits = entries_in-added (drop from es)
entries_in-laid from es (m ∷ ms) fits =
    let front = take (m.place.0 - from) (drop from es) in
    let n : from + (m.place.0 - from) ≡ m.place.0 = omega (arith, fits.0) in
    flat_map-append entry_in (map Added front) (event_of m.event ∷ laid m.place.0 es ms)
    ∙ ap (λ x. x ++ (entry_in (event_of m.event) ++ entries_in (laid m.place.0 es ms))) (entries_in-added front)
    ∙ ap (λ x. front ++ (x ++ entries_in (laid m.place.0 es ms))) (entry_in-mark m.event)
    ∙ ap (λ x. front ++ x) (entries_in-laid m.place.0 es ms fits.1 ∙ ap (λ k. drop k es) (sym n) ∙ sym (drop-drop (m.place.0 - from) from es))
    ∙ take-append-drop (m.place.0 - from) (drop from es)

-- the journal is the entries among the events
pub journal_is : (es : List Entry) (ms : List HistoryMark) → AreLaid 0 ms (length es) → entries_in (laid 0 es ms) ≡ es
journal_is es ms fits = entries_in-laid 0 es ms fits

laid_le : (from n : ℕ) (ms : List HistoryMark) → AreLaid from ms n → from ≤ n
laid_le from n [] fits = fits
laid_le from n (m ∷ ms) fits = omega (arith, fits.0, laid_le m.place.0 n ms fits.1)

-- one entry more is one event more
pub laid-push : (from : ℕ) (es : List Entry) (e : Entry) (ms : List HistoryMark) → AreLaid from ms (length es) → laid from (es ++ e ∷ []) ms ≡ laid from es ms ++ Added e ∷ []
laid-push from es e [] fits = ap (map Added) (drop-append-le from es (e ∷ []) fits) ∙ map-append Added (drop from es) (e ∷ [])
laid-push from es e (m ∷ ms) fits =
    let le = laid_le m.place.0 (length es) ms fits.1 in
    let short : m.place.0 - from ≤ length (drop from es) = omega (arith, length-drop from es, le) in
    let below : from ≤ length es = omega (arith, le, fits.0) in
    let front : take (m.place.0 - from) (drop from (es ++ e ∷ [])) ≡ take (m.place.0 - from) (drop from es) = ap (take (m.place.0 - from)) (drop-append-le from es (e ∷ []) below) ∙ take-append-le (m.place.0 - from) (drop from es) (e ∷ []) short in
    ap (λ x. map Added x ++ event_of m.event ∷ laid m.place.0 (es ++ e ∷ []) ms) front
    ∙ ap (λ x. map Added (take (m.place.0 - from) (drop from es)) ++ event_of m.event ∷ x) (laid-push m.place.0 es e ms fits.1)
    ∙ sym (append_assoc (map Added (take (m.place.0 - from) (drop from es))) (event_of m.event ∷ laid m.place.0 es ms) (Added e ∷ []))

-- so is one mark more
pub laid-mark : (from : ℕ) (es : List Entry) (place : Place) (m : MarkedEvent) (ms : List HistoryMark) → place.0 ≡ length es → AreLaid from ms (length es)
    → laid from es (ms ++ mark_at place m ∷ []) ≡ laid from es ms ++ event_of m ∷ []
laid-mark from es place m [] at fits =
    ap (λ n. map Added (take (n - from) (drop from es)) ++ event_of m ∷ map Added (drop n es)) at
    ∙ ap (λ x. map Added x ++ event_of m ∷ map Added (drop (length es) es)) (take_rest es from)
    ∙ ap (λ x. map Added (drop from es) ++ event_of m ∷ map Added x) (ap (drop (length es)) (sym (append-nil es)) ∙ drop_at es [] (length es) refl)
laid-mark from es place m (x ∷ ms) at fits =
    ap (λ z. map Added (take (x.place.0 - from) (drop from es)) ++ event_of x.event ∷ z) (laid-mark x.place.0 es place m ms at fits.1)
    ∙ sym (append_assoc (map Added (take (x.place.0 - from) (drop from es))) (event_of x.event ∷ laid x.place.0 es ms) (event_of m ∷ []))

pub laid_more : (from n k : ℕ) (ms : List HistoryMark) → AreLaid from ms n → n ≤ k → AreLaid from ms k
laid_more from n k [] fits le = omega arith
laid_more from n k (m ∷ ms) fits le = (fits.0, laid_more m.place.0 n k ms fits.1 le)

pub laid_marked : (from n : ℕ) (place : Place) (m : MarkedEvent) (ms : List HistoryMark) → place.0 ≡ n → AreLaid from ms n → AreLaid from (ms ++ mark_at place m ∷ []) n
laid_marked from n place m [] at fits = (omega (arith, at, fits), omega (arith, at))
laid_marked from n place m (x ∷ ms) at fits = (fits.0, laid_marked x.place.0 n place m ms at fits.1)

-- an entry is no stop
stop_in-added : (es : List Entry) → is_stopped (map Added es) ≡ false
stop_in-added [] = refl
stop_in-added (e ∷ es) = stop_in-added es

-- a stop among the events is one among the marks
pub stop_is : (from : ℕ) (es : List Entry) (ms : List HistoryMark) → is_stopped (laid from es ms) ≡ has_stop ms
stop_is from es [] = stop_in-added (drop from es)
stop_is from es (m ∷ ms) =
    let front = take (m.place.0 - from) (drop from es) in
    list_any-append is_stop (map Added front) (event_of m.event ∷ laid m.place.0 es ms)
    ∙ ap (λ b. b || (is_stop_mark m || is_stopped (laid m.place.0 es ms))) (stop_in-added front)
    ∙ ap (λ b. is_stop_mark m || b) (stop_is m.place.0 es ms)

-- no entry is a start, and no mark
starts-added : (es : List Entry) → filter is_start (map Added es) ≡ []
starts-added [] = refl
starts-added (e ∷ es) = starts-added es

starts-mark : (m : MarkedEvent) (events : List Event) → filter is_start (event_of m ∷ events) ≡ filter is_start events
starts-mark (KeeperFailed r) events = refl
starts-mark Stopped events = refl

starts-laid : (from : ℕ) (es : List Entry) (ms : List HistoryMark) → filter is_start (laid from es ms) ≡ []
starts-laid from es [] = starts-added (drop from es)
starts-laid from es (m ∷ ms) =
    let front = take (m.place.0 - from) (drop from es) in
    filter-append is_start (map Added front) (event_of m.event ∷ laid m.place.0 es ms)
    ∙ ap (λ x. x ++ filter is_start (event_of m.event ∷ laid m.place.0 es ms)) (starts-added front)
    ∙ starts-mark m.event (laid m.place.0 es ms)
    ∙ starts-laid m.place.0 es ms

-- as many stops are among the events as among the marks
stops-added : (es : List Entry) → filter is_stop (map Added es) ≡ []
stops-added [] = refl
stops-added (e ∷ es) = stops-added es

one_more : {X Y : Type 0} (b : Bool) (x : X) (y : Y) (xs : List X) (ys : List Y) → length xs ≡ length ys → length (cond b (x ∷ xs) xs) ≡ length (cond b (y ∷ ys) ys)
one_more true x y xs ys same = omega (arith, same)
one_more false x y xs ys same = same

stops-laid : (from : ℕ) (es : List Entry) (ms : List HistoryMark) → length (filter is_stop (laid from es ms)) ≡ stop_count ms
stops-laid from es [] = ap length (stops-added (drop from es))
stops-laid from es (m ∷ ms) =
    let front = take (m.place.0 - from) (drop from es) in
    let later = laid m.place.0 es ms in
    ap length (filter-append is_stop (map Added front) (event_of m.event ∷ later))
    ∙ ap (λ x. length (x ++ filter is_stop (event_of m.event ∷ later))) (stops-added front)
    ∙ one_more (is_stop_mark m) (event_of m.event) m (filter is_stop later) (filter is_stop_mark ms) (stops-laid m.place.0 es ms)

-- marks with at most one stop give a history
pub history_is : (es : List Entry) (ms : List HistoryMark) → stop_count ms ≤ 1 → IsHistory (laid 0 es ms)
history_is es ms few = record {
  starts = starts-laid 0 es ms;
  stops = omega (arith, few, stops-laid 0 es ms);
}

-- where no stop is among the marks, they are none of its kind
no_stops : (b : Bool) (m : HistoryMark) (stops : List HistoryMark) (later : Bool) → (b || later) ≡ false → (later ≡ false → stops ≡ []) → cond b (m ∷ stops) stops ≡ []
no_stops true m stops later none rest = cc
no_stops false m stops later none rest = rest none

stops-none : (ms : List HistoryMark) → has_stop ms ≡ false → filter is_stop_mark ms ≡ []
stops-none [] none = refl
stops-none (m ∷ ms) none = no_stops (is_stop_mark m) m (filter is_stop_mark ms) (has_stop ms) none (stops-none ms)

-- the first stop is the only one
pub stops-first : (place : Place) (ms : List HistoryMark) → has_stop ms ≡ false → stop_count (ms ++ mark_at place Stopped ∷ []) ≤ 1
stops-first place ms none =
    let last = mark_at place Stopped ∷ [] in
    omega (arith, ap length (filter-append is_stop_mark ms last ∙ ap (λ x. x ++ last) (stops-none ms none)))

-- a keeper that failed is no stop
pub stops-failure : (place : Place) (request : RequestNo) (ms : List HistoryMark) → stop_count (ms ++ mark_at place (KeeperFailed request) ∷ []) ≡ stop_count ms
stops-failure place request ms =
    let last = mark_at place (KeeperFailed request) ∷ [] in
    ap length (filter-append is_stop_mark ms last ∙ append-nil (filter is_stop_mark ms))

-- each entry and each mark is an event
pub count_is : (from : ℕ) (es : List Entry) (ms : List HistoryMark) → AreLaid from ms (length es) → from + length (laid from es ms) ≡ length es + length ms
count_is from es [] fits = omega (arith, fits, length-map (drop from es) Added, length-drop from es)
count_is from es (m ∷ ms) fits =
    let front = take (m.place.0 - from) (drop from es) in
    let le = laid_le m.place.0 (length es) ms fits.1 in
    let short : m.place.0 - from ≤ length (drop from es) = omega (arith, length-drop from es, le) in
    omega (arith, fits.0, le, length-append (map Added front) (event_of m.event ∷ laid m.place.0 es ms), length-map front Added, length-take-le (m.place.0 - from) (drop from es) short, count_is m.place.0 es ms fits.1)
