-- Every computed case of INTER-ROAD messages holds.
use mathlib.Core.Path.{refl}
use Rattle.bits.specs.Fields.{words, pack}
use Rattle.content.specs.Packing.{item_bits, packing, item_fits, all_fit, zero_item, last_zero, packable, writable, padded}
use Rattle.content.specs.Stored.{filled, listed, all_zero_items, well_placed}
use Rattle.report.specs.InterRoad.{real_bits, content_of}
use Rattle.report.specs.Fits.{single_fits, agrees, items_fit, content_fits, multi_fits, fits_by, real_fits, report_fits}
use Rattle.assembler.specs.Calls.{report_then, reports_of, after}
use Rattle.assembler.proofs.Examples.{computing}
use Rattle.report_write.specs.Write.{index_fits, can_write, single_words, contents_of, tail_word, tail_words, later_words, multi_words, words_by, words_of, answer_for, write_report}
use Rattle.cases.specs.Case.{AllHold}
use Rattle.cases.specs.InterRoad.{inter_road_cases}

pub inter_road : AllHold inter_road_cases
unfolding computing words pack item_bits packing item_fits all_fit zero_item last_zero packable writable padded filled listed all_zero_items well_placed real_bits content_of single_fits agrees items_fit content_fits multi_fits fits_by real_fits report_fits report_then reports_of after index_fits can_write single_words contents_of tail_word tail_words later_words multi_words words_by words_of answer_for write_report inter_road_cases
inter_road = (refl, (refl, (refl, (refl, (refl, (refl, (refl, (refl, (refl, (refl, (refl, (refl, (refl, (refl, (refl, (refl, (refl, tt)))))))))))))))))
