-- How a fault and a layer are printed.
use Rattle.std.specs.Prelude.{ℕ, List, ◌++◌, codes, decimal}
use Rattle.fault.specs.declared.record.Fault.{Fault}
use Rattle.fault.specs.declared.layer.Layer.{Layer}
use Rattle.fault.specs.declared.layer.Layer.TheVariants.{Block, Book, Profile, Call, Program}
use Rattle.fault.specs.Numbers.{layer_number, refusal_number}

abbrev pub layer_name : Layer → List ℕ
layer_name Block = codes "block"
layer_name Book = codes "book"
layer_name Profile = codes "profile"
layer_name Call = codes "call"
layer_name Program = codes "program"

abbrev pub fault_line : Fault → List ℕ
fault_line f = codes "refusal " ++ (decimal (refusal_number f.refusal) ++ (codes ", position " ++ (decimal f.position ++ (codes ", layer " ++ decimal (layer_number f.layer)))))
