-- A begin of one of n threads, on the thread itself and on the one whose queue it joins.
use Rattle.std.specs.Prelude.{Bool, cond, ◌&&◌, ℕ, ltb}
use Rattle.model.specs.declared.Operation.{Operation}
use Rattle.model.specs.declared.Thread.{Thread}
use Rattle.model.specs.Codes.{no_receiver, code_only}
use Rattle.model.specs.Phases.{lock, look}
use Rattle.model.specs.Threads.{ended}
use Rattle.model.specs.Queues.{joined}
use Rattle.model.specs.Calls.{begun}

-- it joins a queue: it has a send part, and its target is in the table
unfoldable pub joins : ℕ → Operation → Bool
joins n o = o.send.present && ltb o.send.target n

-- the thread whose queue thread x joins, or x itself where it joins none
unfoldable pub joined_thread : ℕ → ℕ → Operation → ℕ
joined_thread n x o = cond (joins n o) o.send.target x

-- that thread, which was r, afterwards
unfoldable pub queue_joined : ℕ → ℕ → Operation → Thread → Thread
queue_joined n x o r = cond (joins n o) (joined x r) r

-- the thread that begins, which was h, afterwards
unfoldable pub own_begun : ℕ → Operation → Thread → Thread
own_begun n o h = cond o.send.present (cond (ltb o.send.target n) (begun o lock h) (ended (code_only no_receiver) h)) (begun o look h)
