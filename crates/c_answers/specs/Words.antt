-- What the calls on words and system words answer (include/alertc.h): on a refusal its number, and 0 elsewhere.
use Rattle.std.specs.Prelude.{ℕ, Result, Ok, Err}
use Rattle.std.specs.Result.{result_unwrap_or}
use Rattle.refusal.specs.declared.Refusal.{Refusal}
use Rattle.refusal.specs.Number.{refusal_in}
use Rattle.word.specs.declared.Word.{Word}
use Rattle.word.specs.Kind.{refusal_of}
use Rattle.system.specs.declared.System.{System}
use Rattle.c_values.specs.declared.systems.SystemFields.{SystemFields}
use Rattle.c_values.specs.Words.{fields_of}
use Rattle.c_values.specs.Systems.{none, fields_of as system_fields}
use Rattle.c_answers.specs.declared.words.WordParsed.{WordParsed}
use Rattle.c_answers.specs.declared.words.WordComposed.{WordComposed}
use Rattle.c_answers.specs.declared.words.SystemReading.{SystemReading}
use Rattle.c_answers.specs.declared.words.SystemWritten.{SystemWritten}

abbrev pub word_parsed : Word → WordParsed
word_parsed w = record { fields = fields_of w; refusal = refusal_of w }

abbrev pub word_composed : Result ℕ Refusal → WordComposed
word_composed r = record { word = result_unwrap_or r 0; refusal = refusal_in r }

-- the fields of the system word, all 0 on a refusal
abbrev pub system_in : Result System Refusal → SystemFields
system_in (Ok s) = system_fields s
system_in (Err refusal) = none

abbrev pub system_reading : Result System Refusal → SystemReading
system_reading r = record { fields = system_in r; refusal = refusal_in r }

abbrev pub system_written : Result ℕ Refusal → SystemWritten
system_written r = record { word = result_unwrap_or r 0; refusal = refusal_in r }
