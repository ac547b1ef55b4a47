-- Each line is taken by the definition's own step.
use Rattle.std.proofs.Common.{sym, ap, ◌∙◌, rules}
use Rattle.script.proofs.Reading.{first_left, none_left, taken_line, kept-later, handed_fault, reads_whole}
use Rattle.script.proofs.ScriptSound.{script_sound}
use Rattle.script.proofs.reader.read.Goals as goal
use Rattle.script.specs.Sheets.{sheet, with_lines, kept_lines}
use Rattle.script.specs.Words.{lines, lines_left}
use Rattle.std.proofs.lemmas.Iterator.Consumers.{YieldsList-from_first}

pub loop-line-init : goal.loop-line-init
loop-line-init c = record {
  rest = lines c.args.text.now;
  gives = (YieldsList-from_first (λ line. line.now) lines_left (lines c.args.text.now) (search rules)).runs;
  makes = ap (λ s. with_lines 0 s (lines c.args.text.now)) c.new-draft.ensures;
  wants = λ h. sym (ap (λ s. kept_lines 0 s (lines c.args.text.now)) c.new-draft.ensures) ∙ h;
}

pub returns-in_err-draft : goal.returns-in_err-draft
returns-in_err-draft c =
    let n = c.loop-line.number in
    let s = sheet c.loop-line.draft in
    let toward = c.loop-line.invariant in
    let left = first_left _ c.loop-line.line-iterator c.next.new.self _ _ _ toward c.in-Some.line c.in-Some.ensures.steps in
    record {
      said =
          reads_whole c.from_residual.result (λ h. toward.wants (ap (kept_lines n s) left.1 ∙ h)) (sym (ap (with_lines n s) left.1) ∙ toward.makes)
          (handed_fault n c.saturating_add-number.result s c.in-Some.line.now left.0 c.saturating_add-number.ensures c.in_err-draft.field-0.0 c.from_residual.result c.in_err-draft.ensures c.from_residual.ensures.1);
      sound = script_sound;
    }

pub loop-line-preserved : goal.loop-line-preserved
loop-line-preserved c =
    let n = c.loop-line.number in
    let k = c.saturating_add-number.result in
    let s = sheet c.loop-line.draft in
    let t = sheet c.in_ok-draft.draft in
    let toward = c.loop-line.invariant in
    let left = first_left _ c.loop-line.line-iterator c.next.new.self _ _ _ toward c.in-Some.line c.in-Some.ensures.steps in
    record {
      rest = left.0;
      gives = left.2;
      makes = sym (taken_line n k s c.in-Some.line.now left.0 c.saturating_add-number.ensures t c.in_ok-draft.ensures) ∙ sym (ap (with_lines n s) left.1) ∙ toward.makes;
      wants = λ h. toward.wants (ap (kept_lines n s) left.1 ∙ kept-later n k s c.in-Some.line.now left.0 c.saturating_add-number.ensures t c.in_ok-draft.ensures h);
    }

pub returns : goal.returns
unfolding with_lines
returns c =
    let toward = c.loop-line.invariant in
    record {
      said =
          reads_whole c.finished.result (λ no-memory. absurd no-memory)
          (sym (ap (with_lines c.loop-line.number (sheet c.loop-line.draft)) (none_left _ c.loop-line.line-iterator c.next.new.self _ _ _ toward c.in-None.ensures.steps)) ∙ toward.makes) c.finished.ensures;
      sound = script_sound;
    }
