-- The next line ends at the first line feed, or else with the text.
use Rattle.std.proofs.Common.{◌≡◌, ◌+◌, length, take, Some, None, ◌∷◌, ap, sym, ◌∙◌, rules, arith}
use Rattle.script.proofs.FirstLine.{only_line, first_line}
use Rattle.script.proofs.words.LinesIterator.next.Goals as goal
use Rattle.script.specs.Words.{lines, lines_left}
use Rattle.std.proofs.lemmas.List.{take_rest}

pub returns-then-end-text-clause-steps : goal.returns-then-end-text-clause-steps
returns-then-end-text-clause-steps c =
    let text = c.in_ok-text.text.now in
    let was : c.args.self.now.rest ≡ Some c.in_ok-text.text = search rules in
    let gone : c.take.new.self ≡ None = search rules in
    ap (λ r. lines_left (record { rest = r })) was ∙ only_line text c.line_end-end.result c.line_end-end.ensures.front c.if-end-text.true ∙ sym (ap (λ r. text ∷ lines_left (record { rest = r })) gone)

pub returns-then-end-text-clause-goes : goal.returns-then-end-text-clause-goes
returns-then-end-text-clause-goes c = record { on = λ _. (tt, tt, omega (arith, ap length (returns-then-end-text-clause-steps c))); keeps = tt; rests = λ _. tt }

-- a line, and the lines behind its line feed
pub returns-clause-steps : goal.returns-clause-steps
returns-clause-steps c =
    let text = c.in_ok-text.text.now in
    let was : c.args.self.now.rest ≡ Some c.in_ok-text.text = search rules in
    ap (λ r. lines_left (record { rest = r })) was ∙ first_line text c.line_end-end.result c.line_end-end.ensures.front (omega arith) ∙ ap (λ ys. take c.line_end-end.result text ∷ lines ys) (sym (take_rest text (c.line_end-end.result + 1)))

pub returns-clause-goes : goal.returns-clause-goes
returns-clause-goes c = record { on = λ _. (tt, tt, omega (arith, ap length (returns-clause-steps c))); keeps = tt; rests = λ _. tt }
