-- Document 02, #112: a log of sends and a log of receives. When they agree, and where they first differ.
use Rattle.std.specs.Prelude.{◌≡◌, Bool, true, not, cond, ◌&&◌, ◌||◌, List, [], ◌∷◌, map, ℕ, zero, suc, ◌+◌, ◌<◌, length, get_or, take, eqb, leb, ltb}
use Rattle.model.specs.Lists.{all_below, first_below, bit, same_numbers}
use Rattle.model.specs.Operations.{word_limit}
use Rattle.model.specs.Refusals.{Row, first_refusal, unless}
use Rattle.logs.specs.declared.LogEntry.{LogEntry}
use Rattle.logs.specs.declared.Log.{Log}
use Rattle.logs.specs.declared.Compared.{Compared}
use Rattle.logs.specs.declared.Compared.TheVariants.{Refused, Agree, Send, Receive}

-- ---- entries
-- an entry of either log: "sender, target, count, words"
pub record Logged : Type 0 where
  pub sender : ℕ
  pub target : ℕ
  pub count : ℕ
  pub words : List ℕ

-- what an entry says: "Words past the count are not compared"
unfoldable pub logged : LogEntry → Logged
logged e = record { sender = e.sender; target = e.target; count = e.count; words = take e.count e.words }

-- the entries of a log
unfoldable pub entries_of : Log → List Logged
entries_of log = map logged (take log.len log.entries)

-- entry i of some; past their end one of zeros
unfoldable pub entry_at : List Logged → ℕ → Logged
entry_at log i = get_or log i (record { sender = 0; target = 0; count = 0; words = [] })

-- "for each sender and target": the entries have both the same
unfoldable pub same_pair : Logged → Logged → Bool
same_pair a b = eqb a.sender b.sender && eqb a.target b.target

-- "equal .. counts and words"
unfoldable pub same_message : Logged → Logged → Bool
same_message a b = eqb a.count b.count && same_numbers a.words b.words

-- ---- ranks
-- how many numbers below n pass a test
unfoldable pub count_below : ℕ → (ℕ → Bool) → ℕ
count_below zero f = 0
count_below (suc k) f = bit (f k) + count_below k f

-- the "rank for its sender and target" of entry i: how many of theirs stand before it
unfoldable pub rank : List Logged → ℕ → ℕ
rank log i = count_below i (λ k. same_pair (entry_at log k) (entry_at log i))

-- send i and receive j are "of the same rank for its sender and target"
unfoldable pub mates : List Logged → List Logged → ℕ → ℕ → Bool
mates sends receives i j = same_pair (entry_at sends i) (entry_at receives j) && eqb (rank sends i) (rank receives j)

-- ---- what comparing answers
-- where two logs first differ, if they do; or a refusal by its number
pub data SaidComparison : Type 0 where
  refused : ℕ → SaidComparison
  agree : SaidComparison
  send receive : ℕ → SaidComparison

-- what each case of `Compared` stands for
abbrev pub said_comparison : Compared → SaidComparison
said_comparison (Refused number) = refused number
said_comparison Agree = agree
said_comparison (Send i) = send i
said_comparison (Receive j) = receive j

-- send i "differs from the receive of the same rank for its sender and target, or has none"
unfoldable pub send_differs : List Logged → List Logged → ℕ → Bool
send_differs sends receives i = all_below (length receives) (λ j. not (mates sends receives i j && same_message (entry_at sends i) (entry_at receives j)))

-- receive j is one "whose rank has no send"
unfoldable pub receive_unsent : List Logged → List Logged → ℕ → Bool
receive_unsent sends receives j = all_below (length sends) (λ i. not (mates sends receives i j))

-- "name the first send that differs ..; else the first receive whose rank has no send"
unfoldable pub compare : List Logged → List Logged → SaidComparison
compare sends receives =
    let i = first_below (length sends) (send_differs sends receives) in
    let j = first_below (length receives) (receive_unsent sends receives) in
    cond (ltb i (length sends)) (send i) (cond (ltb j (length receives)) (receive j) agree)

-- "at most 512 entries each"
abbrev pub log_room : ℕ
log_room = 512

-- "22, a log above 512 entries or a count above 8"
unfoldable pub bad_log : Log → Row
bad_log log = let entries = entries_of log in record { when = ltb log_room log.len || not (all_below (length entries) (λ i. leb (entry_at entries i).count word_limit)); number = 22 }

-- "before anything is compared"
unfoldable pub compare_refusal : Log → Log → ℕ
compare_refusal sends receives = first_refusal (bad_log sends ∷ bad_log receives ∷ [])

-- what the call answers
unfoldable pub compare_answer : Log → Log → SaidComparison
compare_answer sends receives = unless (compare_refusal sends receives) refused (compare (entries_of sends) (entries_of receives))

-- ---- when they agree
-- "a one-to-one pairing with equal threads, counts and words that keeps, for each sender and target, the order of both logs"
pub record Pairing (sends receives : List Logged) : Type 0 where
  pub to : ℕ → ℕ
  pub from : ℕ → ℕ
  pub there : (i : ℕ) → i < length sends → (to i < length receives) × (from (to i) ≡ i)
  pub back : (j : ℕ) → j < length receives → (from j < length sends) × (to (from j) ≡ j)
  pub equal : (i : ℕ) → i < length sends → entry_at sends i ≡ entry_at receives (to i)
  pub order : (i k : ℕ) → i < k → k < length sends → same_pair (entry_at sends i) (entry_at sends k) ≡ true → to i < to k

-- "They agree if there is a one-to-one pairing ..", and only then: of logs that are not refused
abbrev pub AgreeIfPaired : Type 0
AgreeIfPaired =
    (sends receives : Log) → compare_refusal sends receives ≡ 0
    → (compare_answer sends receives ≡ agree → Pairing (entries_of sends) (entries_of receives)) × (Pairing (entries_of sends) (entries_of receives) → compare_answer sends receives ≡ agree)
