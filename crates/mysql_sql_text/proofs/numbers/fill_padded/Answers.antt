use Rattle.std.proofs.Common.{◌≡◌, ◌∙◌, ◌++◌, ◌∷◌, [], ◌+◌, ◌-◌, ◌%◌, ◌/◌, ap, sym, arith, drop, length, append_assoc}
use Rattle.std.proofs.lemmas.List.{set_split}
use Rattle.mysql_sql_text.proofs.ByteNames.{digit_zero}
use Rattle.mysql_sql_text.proofs.PaddedLemmas.{last_digits, last_digits-padded, last_digits-two}
use Rattle.mysql_sql_text.proofs.numbers.fill_padded.Goals as goal

pub loop-at-preserved : goal.loop-at-preserved
loop-at-preserved c =
    let number = c.loop-at.number in
    let at = c.loop-at.at - 2 in
    let two : at + 2 ≡ c.loop-at.at = omega arith in
    let front = last_digits at (number / 100) in
    let rest = drop (at + 2) c.loop-at.buffer in
    record {
      within = omega arith;
      written =
          ap (λ t. front ++ t) c.put_two_digits.ensures
          ∙ sym (append_assoc front ((digit_zero + number % 100 / 10) ∷ (digit_zero + number % 100 % 10) ∷ []) rest)
          ∙ ap (λ t. t ++ rest) (sym (last_digits-two at number))
          ∙ ap (λ i. last_digits i number ++ drop i c.loop-at.buffer) two ∙ c.loop-at.invariant.written;
    }

pub returns-then-at-eq0 : goal.returns-then-at-eq0
returns-then-at-eq0 c =
    let start : c.loop-at.at ≡ 0 = omega arith in
    let all = rw start at c.loop-at.invariant.written in
    all ∙ last_digits-padded (length c.args.buffer.now) c.args.number (omega arith) c.requires

pub returns : goal.returns
returns c =
    let one : c.loop-at.at ≡ 1 = omega arith in
    let all = rw one at c.loop-at.invariant.written in
    set_split c.loop-at.buffer 0 (digit_zero + c.loop-at.number % 10) (omega arith) ∙ all
    ∙ last_digits-padded (length c.args.buffer.now) c.args.number (omega arith) c.requires
