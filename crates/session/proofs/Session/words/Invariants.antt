use Rattle.std.proofs.Common.{◌≡◌, ◌+◌, ◌*◌, ◌≤◌, length, take}
use Rattle.lines.specs.Line.{room}
use Rattle.lines.specs.Text.{Put}
use Rattle.session.specs.Session.{after_words, words_text}
use Rattle.session.proofs.Session.words.Given as goal

abbrev pub invariant-loop-word : goal.invariant-loop-word
invariant-loop-word l = record {
  session : l.told.session ≡ after_words l.fn.self (take l.word-index l.words);
  put : Put l.fn.at (words_text l.fn.self (take l.word-index l.words)) l.initial.out l.told.at l.out;
  bound : l.told.at ≤ l.fn.at + l.word-index * room;
  same : length l.out ≡ length l.initial.out;
}
