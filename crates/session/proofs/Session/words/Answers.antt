-- The words up to the index are told.
use Rattle.std.proofs.Common.{rules, get_or, take, refl, ap, ◌∙◌, ◌++◌, arith, take_all}
use Rattle.lines.proofs.Puts.{put_as, put_then, put_nothing}
use Rattle.session.specs.declared.Session.{Session}
use Rattle.session.specs.Session.{after_words, after_word, word_text, words_text}
use Rattle.session.proofs.Turns.{after_more, text-more}
use Rattle.session.proofs.Session.words.Goals as goal

pub loop-word-init : goal.loop-word-init
unfolding after_words words_text
loop-word-init c = record { session = refl; put = put_nothing c.args.at c.args.out.now; bound = omega arith; same = refl }

pub loop-word-preserved : goal.loop-word-preserved
loop-word-preserved c =
    let a = c.args in
    let l = c.loop-word in
    let call = c.word-told in
    let h = c.loop-word-test.true in
    let ws = a.words.now in
    let i = l.word-index in
    let w = get_or ws i 0 in record {
      session = call.ensures.session_value ∙ ap (λ (s : Session). after_word s w) l.invariant.session ∙ after_more a.self ws i h;
      put = put_as a.at a.out.now call.result.at call.new.out
          (ap (λ (s : Session). words_text a.self (take i ws) ++ word_text s w) l.invariant.session ∙ text-more a.self ws i h)
          (put_then a.at (words_text a.self (take i ws)) (word_text l.told.session w) a.out.now (omega (arith, c.requires)) l.invariant.put call.ensures.put);
      bound = omega (arith, l.invariant.bound, call.ensures.at_bound);
      same = search rules;
    }

pub returns : goal.returns
returns c =
    let a = c.args in
    let l = c.loop-word in
    let all = take_all l.word-index a.words.now c.loop-word-test.false in record {
      session_value = l.invariant.session ∙ ap (after_words a.self) all;
      put = put_as a.at a.out.now l.told.at l.out (ap (words_text a.self) all) l.invariant.put;
      at_bound = omega (arith, l.invariant.bound, c.loop-word.auto.word-index-end);
    }
