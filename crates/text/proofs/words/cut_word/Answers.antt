use Rattle.std.proofs.Common.{take, drop, ap, ◌∙◌, arith}
use Rattle.text.specs.Words.{front_word, past_word}
use Rattle.text.proofs.Pieces.{word_within, word_front, word_back}
use Rattle.text.proofs.words.cut_word.Goals as goal

pub split_at-requires : goal.split_at-requires
split_at-requires c = omega (arith, word_within c.trim-text.result.now, c.word_length-end.ensures)

pub returns : goal.returns
returns c =
    let t = c.trim-text.result.now in
    record {
      first = c.split_at.ensures.front ∙ ap (λ n. take n t) c.word_length-end.ensures ∙ word_front t ∙ ap front_word c.trim-text.ensures;
      rest = c.split_at.ensures.back ∙ ap (λ n. drop n t) c.word_length-end.ensures ∙ word_back t ∙ ap past_word c.trim-text.ensures;
    }
