-- Every computed case of whole FIBs holds.
use mathlib.Core.Path.{refl}
use Rattle.bits.specs.Bits.{bit, num, bits, val, all_zero}
use Rattle.bits.specs.Lists.{joined}
use Rattle.bits.specs.Fields.{flat, words, unpack}
use Rattle.crc.specs.Register.{shifted, entered, check_word}
use Rattle.crc.specs.Block.{is_checked}
use Rattle.fig.specs.Format.{word_width}
use Rattle.fig.specs.Read.{check_fields, check_head, check_data, read_data, read_fig}
use Rattle.fib.specs.Figs.{ended, first_length, figs_by, figs_within, figs}
use Rattle.fib.specs.Walk.{is_tmc, carried, read_one, and_then, walk_from}
use Rattle.fib.specs.Read.{check_block, ending_by, read_block, read_words, cells_after}
use Rattle.cases.specs.Case.{AllHold}
use Rattle.cases.specs.Fibs.{fib_cases}

pub blocks : AllHold fib_cases
unfolding bit num bits val all_zero joined flat words unpack shifted entered check_word is_checked word_width check_fields check_head check_data read_data read_fig ended first_length figs_by figs_within figs is_tmc carried read_one and_then walk_from check_block ending_by read_block read_words cells_after fib_cases
blocks = (refl, (refl, (refl, (refl, (refl, (refl, (refl, (refl, (refl, (refl, (refl, (refl, (refl, tt)))))))))))))
