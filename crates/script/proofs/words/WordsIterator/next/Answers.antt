-- The next word is what stands between the blanks and the next byte that is in no word.
use Rattle.std.proofs.Common.{◌≡◌, length, ap, ◌∙◌, rules, arith, tests}
use Rattle.script.proofs.FirstWord.{put, split_off, no_word, one_word}
use Rattle.script.proofs.words.WordsIterator.next.Goals.{After-split_at-2}
use Rattle.script.proofs.words.WordsIterator.next.Goals as goal
use Rattle.script.specs.Words.{blank, in_word, words, left}
use Rattle.std.proofs.lemmas.Iterator.{YieldsList-from_slice}
use Rattle.std.proofs.lemmas.Iterator.Consumers.{count_from_yields_List}
use Rattle.std.proofs.lemmas.Iterator.Search.{YieldsList-from_take_while}
use Rattle.std.proofs.lemmas.List.Folds.{length-prefix_len}
use Rattle.std.specs.List.{prefix_len}

-- so many bytes are blank, and so many are in the word after them
blanks : (c : After-split_at-2) → c.count-blanks.result ≡ prefix_len blank c.args.self.now.rest.now
blanks c =
    count_from_yields_List c.take_while.result _ c.count-blanks.ensures.ran
    (YieldsList-from_take_while _ blank (YieldsList-from_slice c.args.self.now.rest.now cc) c.take_while.ensures.closure c.take_while.ensures.done (λ x b q k. search (rules, tests)))
    ∙ length-prefix_len blank c.args.self.now.rest.now

end : (c : After-split_at-2) → c.count-end.result ≡ prefix_len in_word c.split_at.result.1.now
end c =
    count_from_yields_List c.take_while-2.result _ c.count-end.ensures.ran
    (YieldsList-from_take_while _ in_word (YieldsList-from_slice c.split_at.result.1.now cc) c.take_while-2.ensures.closure c.take_while-2.ensures.done (λ x b q k. search (rules, tests)))
    ∙ length-prefix_len in_word c.split_at.result.1.now

-- the line is cut before and after its first word
cut : (c : After-split_at-2) → left c.args.self.now ≡ put c.split_at-2.result.0.now (words c.split_at-2.result.1.now)
cut c = split_off c.args.self.now.rest.now c.split_at.result.1.now c.split_at-2.result.0.now c.split_at-2.result.1.now c.count-blanks.result c.count-end.result (blanks c) c.split_at.ensures.back (end c) c.split_at-2.ensures.front c.split_at-2.ensures.back

pub returns-then-is_empty : goal.returns-then-is_empty
returns-then-is_empty c =
    let none = cut (goal.at.returns-then-is_empty c).After-split_at-2 ∙ no_word _ _ c.if-is_empty.ensures in
    record { steps = (none, none); goes = record { on = λ _. tt; keeps = tt; rests = λ _. tt } }

pub returns : goal.returns
returns c =
    let one = cut (goal.at.returns c).After-split_at-2 ∙ one_word _ _ c.if-is_empty.ensures in
    record { steps = one; goes = record { on = λ _. (tt, tt, omega (arith, ap length one)); keeps = tt; rests = λ _. tt } }
