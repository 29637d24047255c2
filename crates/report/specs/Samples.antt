-- The reports of the worked words (document 01, "Worked words").
use Rattle.std.specs.Prelude.{[], ◌∷◌}
use Rattle.word.specs.Samples.{head101, head401}
use Rattle.content.specs.Stored.{filled}
use Rattle.report.specs.declared.Report.{Report}
use Rattle.report.specs.declared.Form.TheVariants.{Single, Multi}

-- of the single word
abbrev pub report101 : Report
report101 = record { form = Single; head = head101; real = 0; diversion = 0; duration = 3; items = filled [] }

-- of the two groups: items (3,10) and (0,2), duration 2
abbrev pub report401 : Report
report401 =
    record {
      form = Multi;
      head = head401;
      real = 0;
      diversion = 0;
      duration = 2;
      items = filled (record { label = 3; value = 10 } ∷ record { label = 0; value = 2 } ∷ []);
    }
