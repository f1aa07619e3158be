use Rattle.journal_model.proofs.Listing.{ordered_list, list_finds, listed_of_table}
use Rattle.journal_model.proofs.snapshot_laws.lists_show_what_reads_find.Goals as goal

pub returns-clause-ordered : goal.returns-clause-ordered
returns-clause-ordered c = ordered_list

pub returns-clause-found : goal.returns-clause-found
returns-clause-found c = list_finds

pub returns-clause-own : goal.returns-clause-own
returns-clause-own c = listed_of_table
