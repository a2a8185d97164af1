-- The printed line of a look-over. Assumes nothing.
use Rattle.std.specs.Prelude.{ℕ, List, ◌++◌, codes, decimal}
use Rattle.format.specs.Names.{file_name}
use Rattle.format.specs.LookOver.{Outcome, Layer, Counts}
use Rattle.format.specs.LookOver.Outcome.{pass, fault}
use Rattle.format.specs.LookOver.Layer.{file_layer, record_layer, word_layer}
use Rattle.format.specs.Reading.{file_of}
use Rattle.report.specs.declared.Report.{Report}
use Rattle.report.specs.declared.Layer.{Layer as Told}
use Rattle.report.specs.declared.Layer.TheVariants.{File as ToldFile, Record as ToldRecord, Word as ToldWord}

abbrev pub layer_at : Told → Layer
layer_at ToldFile = file_layer
layer_at ToldRecord = record_layer
layer_at ToldWord = word_layer

-- a report, as an outcome
abbrev pub reported : Report → Outcome
reported r = fault r.number (file_of r.file) r.word (layer_at r.layer)

abbrev pub name_of : Layer → List ℕ
name_of file_layer = codes "file"
name_of record_layer = codes "record"
name_of word_layer = codes "word"

abbrev pub layer_name : Told → List ℕ
layer_name l = name_of (layer_at l)

abbrev pub listed : Counts → List ℕ
listed c = codes "booleans " ++ (decimal c.booleans ++ (codes " clocks " ++ (decimal c.clocks ++ (codes " invariants " ++ (decimal c.invariants ++ (codes " commands " ++ (decimal c.commands ++ (codes " bad " ++ (decimal c.bads ++ (codes " zones " ++ (decimal c.zones ++ (codes " checks " ++ decimal c.checks))))))))))))

abbrev pub printed : Outcome → List ℕ
printed (pass c) = codes "pass " ++ listed c
printed (fault n f w l) = codes "fault " ++ (decimal n ++ (codes " " ++ (file_name f ++ (codes " word " ++ (decimal w ++ (codes " " ++ name_of l))))))
