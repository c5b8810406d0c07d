-- `zero::clear` meets its contract.
use Rattle.tables.proofs.Laws.Formed.{long-is}
use Rattle.tables.proofs.Laws.Lent.{long-words, cleared-sets, cleared-spare}
use Rattle.tables.proofs.Laws.Zeros.{cleared-tables}
use Rattle.tables.proofs.zero.clear.Goals as goal

pub fill_front-requires-clause-room : goal.fill_front-requires-clause-room
fill_front-requires-clause-room c = (long-is _ c.requires).literals

pub fill_front-requires-2-clause-room : goal.fill_front-requires-2-clause-room
fill_front-requires-2-clause-room c = (long-is _ c.requires).ends

pub fill_front-requires-3-clause-room : goal.fill_front-requires-3-clause-room
fill_front-requires-3-clause-room c = long-words _ (long-is _ c.requires).sets

pub fill_front-requires-4-clause-room : goal.fill_front-requires-4-clause-room
fill_front-requires-4-clause-room c = (long-is _ c.requires).kinds

pub returns-clause-tables : goal.returns-clause-tables
returns-clause-tables c =
    let room = long-words _ (long-is _ c.requires).sets in
    let sets = c.fill_front-3.ensures in
    cleared-tables _ _ c.fill_front.ensures c.fill_front-2.ensures (cleared-sets _ room sets) (cleared-spare _ room sets) c.fill_front-4.ensures
