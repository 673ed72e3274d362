use Rattle.std.proofs.Common.{refl}
use Rattle.model.specs.Threads.{at, put}
use Rattle.unchecked.proofs.Performed.{begin-place, begin-words, begin-leaves, joined-in_array, joined-room}
use Rattle.unchecked.proofs.begin_in.Goals as goal

pub zero_thread-requires : goal.zero_thread-requires
zero_thread-requires c = begin-words _ _ _ c.requires.accepted

pub bounds-table-j : goal.bounds-table-j
bounds-table-j c = joined-in_array _ _ _ c.requires.accepted _ refl _ c.joined_thread-j.ensures

pub join_queue-requires : goal.join_queue-requires
unfolding at
join_queue-requires c = joined-room _ _ _ c.requires.accepted _ refl _ c.joined_thread-j.ensures c.requires.shaped

pub bounds-table-j-2 : goal.bounds-table-j-2
bounds-table-j-2 c = joined-in_array _ _ _ c.requires.accepted _ refl _ c.joined_thread-j.ensures

pub bounds-table-i : goal.bounds-table-i
bounds-table-i c = begin-place _ _ _ c.requires.accepted

pub bounds-table-i-2 : goal.bounds-table-i-2
bounds-table-i-2 c = begin-place _ _ _ c.requires.accepted

pub returns : goal.returns
unfolding at put
returns c = begin-leaves _ _ _ c.requires.accepted _ c.zero_thread.ensures _ refl _ _ _ c.join_queue.ensures c.begin_own.ensures c.joined_thread-j.ensures
