use Rattle.std.proofs.Common.{length}
use Rattle.served_items.proofs.Reaching.{advance, back, begins, given_up, held_later, held_since, held_within, inside, item_joins, meanwhile, opens, out, outside, still, taken, windows}
use Rattle.served_items.proofs.holding.items_are_held_in_order.Goals as goal

pub returns-clause-begins : goal.returns-clause-begins
returns-clause-begins g c = λ history. begins history

pub returns-clause-meanwhile : goal.returns-clause-meanwhile
returns-clause-meanwhile g c = λ begun history more items s h. meanwhile begun history more items s h

pub returns-clause-still : goal.returns-clause-still
returns-clause-still g c = λ begun history items s new same h. still begun history items s new same h

pub returns-clause-taken : goal.returns-clause-taken
returns-clause-taken g c = λ key home counts begun history items s new clock clock_after random random_after serials serials_after is takes h.
    taken g.C.Clock.told g.R.Random.gives g.S.Serials.looks key home counts begun history items s new clock clock_after random random_after serials serials_after is takes h

pub returns-clause-outside : goal.returns-clause-outside
returns-clause-outside g c = λ begun history items old new link after steps h.
    outside g.L.Link.makes g.L.Link.tally begun history items old new link after steps h

pub returns-clause-windows : goal.returns-clause-windows
returns-clause-windows g c = λ begun history items old new before after steps h. windows begun history items old new before after steps h

pub returns-clause-inside : goal.returns-clause-inside
returns-clause-inside g c = λ begun items old new container after steps grown h.
    inside g.P.Program.asks begun items old new container after steps grown h

pub returns-clause-advance : goal.returns-clause-advance
returns-clause-advance g c = λ begun history items key old new steps h. advance begun history items key old new steps h

pub returns-clause-open : goal.returns-clause-open
returns-clause-open g c = λ begun history items s stage maker worker does h.
    opens g.M.ProgramMaker.makes begun history items s stage maker worker does h

pub returns-clause-out : goal.returns-clause-out
returns-clause-out g c = λ begun history items bytes s stage puts h. out begun history items bytes s stage puts h

pub returns-clause-item : goal.returns-clause-item
returns-clause-item g c = λ begun history items i s stage takes h. item_joins begun history items i s stage takes h

pub returns-clause-given_up : goal.returns-clause-given_up
returns-clause-given_up g c = λ begun history items s h. given_up begun history items s h

pub returns-clause-given_back : goal.returns-clause-given_back
returns-clause-given_back g c = λ begun history items s stage before after gives h. back begun history items s stage before after gives h

pub returns-clause-since : goal.returns-clause-since
returns-clause-since g c = λ begun history before behind i s h some. held_since begun before behind i h.hold_on some

pub returns-clause-later : goal.returns-clause-later
returns-clause-later g c = λ begun history before between behind i later s h some. held_later begun before between behind i later h.hold_on some

pub returns-clause-within : goal.returns-clause-within
returns-clause-within g c = λ begun history before behind i s h. held_within begun (length history) before behind i h.within
