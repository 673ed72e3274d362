-- Laws of the text of a record's parts: numbers one behind the other, and a send part.
use Rattle.std.proofs.Common.{◌≡◌, refl, ℕ, ◌+◌, true, false, List, [], ◌∷◌, ◌++◌, map, get_or, add-one}
use Rattle.std.proofs.lemmas.List.{map-append}
use Rattle.model.specs.declared.SendPart.{SendPart}
use Rattle.model.specs.Lists.{up_to, concat}
use Rattle.model.specs.Bondtrace.{ascii, decimal, spaced}
use Rattle.laws.proofs.Joined.{concat-append}
use Rattle.laws.proofs.Lists.{cond-true, cond-false}
use Rattle.language.specs.RecordText.{sent_words, send_text}

-- numbers one behind the other
pub spaced-append : (l m : List ℕ) → spaced (l ++ m) ≡ spaced l ++ spaced m
unfolding spaced
spaced-append l m = rw map-append (concat-append (map (λ n. ascii " " ++ decimal n) l) (map (λ n. ascii " " ++ decimal n) m))

-- ---- a send part
module _ (send : SendPart) where
  -- the text of its first i words
  unfoldable pub first_sent : ℕ → List ℕ
  first_sent i = spaced (up_to i (λ k. get_or send.words k 0))

  -- none is no text
  pub sent-none : first_sent 0 ≡ []
  unfolding first_sent spaced up_to concat
  sent-none = refl

  -- the first i and then the next are the first i + 1
  pub sent_more : (i : ℕ) → first_sent (i + 1) ≡ first_sent i ++ spaced (get_or send.words i 0 ∷ [])
  unfolding first_sent up_to
  sent_more i = rw (add-one, spaced-append) refl

  -- as many as the count are all
  pub sent_all : first_sent send.count ≡ spaced (sent_words send)
  unfolding first_sent sent_words
  sent_all = refl

  -- one that is there
  pub send-there : send.present ≡ true → send_text send ≡ ascii " send" ++ (spaced (send.target ∷ send.time ∷ []) ++ spaced (sent_words send))
  unfolding send_text
  send-there e = rw (← spaced-append (send.target ∷ send.time ∷ []) (sent_words send)) (cond-true send.present _ [] e)

  -- one that is not
  pub send-missing : send.present ≡ false → send_text send ≡ []
  unfolding send_text
  send-missing e = cond-false send.present _ [] e
