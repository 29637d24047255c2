-- The words of a report in a lent buffer (document 01, "Multi-group content"; ISO 14819-1, clauses 6.7.2, 7.4, 9.4.2 and
-- 9.4.3).
use Rattle.std.specs.Prelude.{ℕ, ◌-◌, Bool, cond, ◌&&◌, List, [], ◌∷◌, ◌++◌, length, drop, leb, eqb, Result, Ok}
use Rattle.bits.specs.Bits.{val}
use Rattle.bits.specs.Fields.{words, pack}
use Rattle.word.specs.Format.{head_format, later_format}
use Rattle.word.specs.Compose.{single_values, first_values, later_values, is_index}
use Rattle.content.specs.Packing.{group_bits, groups, padded}
use Rattle.report.specs.declared.Report.{Report}
use Rattle.report.specs.declared.Form.{Form}
use Rattle.report.specs.declared.Form.TheVariants.{Single, Multi}
use Rattle.report.specs.InterRoad.{content_of}
use Rattle.report.specs.Fits.{report_fits}
use Rattle.refusal.specs.declared.Refusal.{Refusal}
use Rattle.refusal.specs.declared.Refusal.TheVariants.{Unfit, SmallBuffer}
use Rattle.refusal.specs.Checks.{must}

-- the continuity index: 0 for a single-group report, 1 to 6 for a multi-group one
unfoldable pub index_fits : Form → ℕ → Bool
index_fits Single ci = eqb ci 0
index_fits Multi ci = is_index ci

-- a report and an index that go together
unfoldable pub can_write : ℕ → Report → Bool
can_write ci r = report_fits r && index_fits r.form ci

-- the one word of a single-group message
unfoldable pub single_words : Report → List ℕ
single_words r = val (pack head_format (single_values r.duration r.diversion r.head)) ∷ []

-- content bits as the contents of later groups, the fewest that hold them
unfoldable pub contents_of : List Bool → List ℕ
contents_of l = words group_bits (groups (length l) - 1) (padded l)

-- a group after the second: no mark, and its GSI is the number of groups still to come
unfoldable pub tail_word : ℕ → ℕ → ℕ → ℕ
tail_word ci left c = val (pack later_format (later_values ci 0 left c))

-- the groups after the second, one for each content
unfoldable pub tail_words : ℕ → List ℕ → List ℕ
tail_words ci [] = []
tail_words ci (c ∷ cs) = tail_word ci (length cs) c ∷ tail_words ci cs

-- the later groups: the second-group mark on the first of them
unfoldable pub later_words : ℕ → List ℕ → List ℕ
later_words ci [] = []
later_words ci (c ∷ cs) = val (pack later_format (later_values ci 1 (length cs) c)) ∷ tail_words ci cs

-- a first group and later groups
unfoldable pub multi_words : ℕ → Report → List ℕ
multi_words ci r = val (pack head_format (first_values ci r.head)) ∷ later_words ci (contents_of (content_of r))

-- by the report's form
unfoldable pub words_by : Form → ℕ → Report → List ℕ
words_by Single ci r = single_words r
words_by Multi ci r = multi_words ci r

-- the words of a report
unfoldable pub words_of : ℕ → Report → List ℕ
words_of ci r = words_by r.form ci r

-- words into the first cells of a buffer: refused where there are too few cells, else the number of words
unfoldable pub answer_for : List ℕ → ℕ → Result ℕ Refusal
answer_for ws room = must (leb (length ws) room) SmallBuffer (Ok (length ws))

-- the buffer afterwards: the words first and later cells as they were; all as they were where there are too few
unfoldable pub buffer_after : List ℕ → List ℕ → List ℕ
buffer_after ws out = cond (leb (length ws) (length out)) (ws ++ drop (length ws) out) out

-- what is not to be written is refused, then too small a buffer
unfoldable pub write_report : ℕ → Report → ℕ → Result ℕ Refusal
write_report ci r room = must (can_write ci r) Unfit (answer_for (words_of ci r) room)

-- the buffer after a call; a refusal leaves it
unfoldable pub words_after : ℕ → Report → List ℕ → List ℕ
words_after ci r out = cond (can_write ci r) (buffer_after (words_of ci r) out) out
