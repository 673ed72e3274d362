-- Document 01, "The table" and "Calls": the queue of waiting senders, the search for an acceptable one, and when a receiver is ready.
use Rattle.std.specs.Prelude.{Bool, not, cond, List, [], ◌∷◌, ◌++◌, ℕ, ◌+◌, ◌-◌, length, set, take, drop, ltb}
use Rattle.std.proofs.Math.Option.{Option}
use Rattle.std.proofs.Math.ListN.{get_elem?}
use Rattle.model.specs.declared.Thread.{Thread}
use Rattle.model.specs.Operations.{accepts}
use Rattle.model.specs.Threads.{with_queue}
use Rattle.model.specs.Lists.{all_of, without, place_where}

-- the waiting senders, the earliest first
unfoldable pub senders : Thread → List ℕ
senders h = take h.queue.len h.queue.items

-- s at the end of the queue
unfoldable pub joined : ℕ → Thread → Thread
joined s h = with_queue (record { items = set h.queue.items h.queue.len s; len = h.queue.len + 1 }) h

-- s gone from the queue, those behind it moved up
unfoldable pub departed : ℕ → Thread → Thread
departed s h = with_queue (record { items = without s (senders h) ++ drop (h.queue.len - 1) h.queue.items; len = h.queue.len - 1 }) h

-- the place in the queue where the search stops: at the first acceptable sender, or past the last
unfoldable pub search_place : Thread → ℕ
search_place h = place_where (accepts h.op.receive) (senders h)

-- "the first acceptable sender in the queue"
unfoldable pub find_sender : Thread → Option ℕ
find_sender h = get_elem? (senders h) (search_place h)

-- "how many queue places it read: up to and with that sender's, or all if none fits"
unfoldable pub places_read : Thread → ℕ
places_read h = cond (ltb (search_place h) (length (senders h))) (search_place h + 1) (length (senders h))

-- document 01's "ready" for s: "`ipc` and `receiving` set, `send` and `mark` clear, open or closed on" s
unfoldable pub ready : Thread → ℕ → Bool
ready h s = all_of (h.flags.ipc ∷ h.flags.receiving ∷ not h.flags.send ∷ not h.flags.mark ∷ accepts h.op.receive s ∷ [])
