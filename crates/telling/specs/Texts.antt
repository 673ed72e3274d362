-- What the console answers to `search`, `rules` and `compare`, in the words of its table of commands; and the text of whether a table is at rest.
use Rattle.std.specs.Prelude.{cond, List, [], ◌++◌, ℕ, eqb}
use Rattle.model.specs.declared.Answer.{Answer}
use Rattle.model.specs.declared.Pair.{Pair}
use Rattle.model.specs.declared.Misfit.{Misfit}
use Rattle.model.specs.declared.Misfit.TheVariants.{Fits, TooMany, Gap, Overlap}
use Rattle.logs.specs.declared.Compared.{Compared}
use Rattle.logs.specs.declared.Compared.TheVariants.{Refused, Agree, Send, Receive}
use Rattle.model.specs.Answers.{SaidSearch, not_receiving, searched, SaidRest, resting, would_move}
use Rattle.model.specs.Bondtrace.{ascii, decimal}
use Rattle.model.specs.Codes.{nobody}
use Rattle.model.specs.Rules.{pair_of}
use Rattle.text.specs.Texts.{answer_text}

-- a sender, or that there is none
unfoldable pub sender_text : ℕ → List ℕ
sender_text sender = cond (eqb sender nobody) (ascii "none") (decimal sender)

-- "`S PLACES` or `none PLACES`; `not receiving` where its `receiving` is clear; `refused R`"
unfoldable pub search_text : SaidSearch → List ℕ
search_text (SaidSearch.refused number) = ascii "refused " ++ decimal number ++ ascii "\n"
search_text not_receiving = ascii "not receiving" ++ ascii "\n"
search_text (searched sender read) = sender_text sender ++ ascii " " ++ decimal read ++ ascii "\n"

-- a pair, each number behind a space
unfoldable pub pair_text : Pair → List ℕ
pair_text pair = ascii " " ++ decimal pair.sender ++ ascii " " ++ decimal pair.target

-- what does not fit, and its pair
unfoldable pub misfit_text : Misfit → List ℕ
misfit_text Fits = []
misfit_text TooMany = ascii " rows" ++ pair_text (pair_of TooMany)
misfit_text (Gap pair) = ascii " gap" ++ pair_text (pair_of (Gap pair))
misfit_text (Overlap pair) = ascii " overlap" ++ pair_text (pair_of (Overlap pair))

-- "`accepted`, `refused 14 gap S T`, `refused 14 overlap S T`, `refused 14 rows 255 255`, or `refused R`"
unfoldable pub loaded_text : Answer → Misfit → List ℕ
loaded_text answer misfit = answer_text answer ++ misfit_text misfit ++ ascii "\n"

-- a number behind its name, as a line
unfoldable pub named_number : List ℕ → ℕ → List ℕ
named_number name number = name ++ decimal number ++ ascii "\n"

-- "`agree`, `send I`, `receive I` (entries counted from 0) or `refused 22`"
unfoldable pub compared_text : Compared → List ℕ
compared_text (Refused number) = named_number (ascii "refused ") number
compared_text Agree = ascii "agree" ++ ascii "\n"
compared_text (Send place) = named_number (ascii "send ") place
compared_text (Receive place) = named_number (ascii "receive ") place

-- "`at rest`, `X would move`, or `refused R`"
unfoldable pub rest_text : SaidRest → List ℕ
rest_text (SaidRest.refused number) = named_number (ascii "refused ") number
rest_text resting = ascii "at rest" ++ ascii "\n"
rest_text (would_move thread) = decimal thread ++ ascii " would move" ++ ascii "\n"
