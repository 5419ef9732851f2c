-- What the fields of a reading keep.
use Rattle.std.specs.Prelude.{◌≡◌, ◌+◌, ◌≤◌, ◌^◌, length, take, drop}
use Rattle.line_runs.specs.Breaks.{IsUnbroken}
use Rattle.line_runs.specs.declared.reading.Reading.TheInside.{Inside}

-- the searched octets lie within the text and hold no LF; the counts are within their limits
pub record IsOpen (r : Inside) : Type 0 where
  pub within : r.start + r.searched ≤ length r.text.items
  pub unbroken : IsUnbroken (take r.searched (drop r.start r.text.items))
  pub short : r.searched ≤ 131200
  pub limited : r.count ≤ 2 ^ 30
  pub chunked : length r.chunk.items ≡ 65536
