-- Two outcomes that the contract allows are equal: it is the line reader's. Assumes nothing.
use Rattle.line.proofs.Determined as Line
use Rattle.splitter.specs.Promises.{Determined}

pub determined : Determined
determined = record { split_line = (Line.determined).read_line }
