-- What opening the field that is due at a part of a file answers.
use Rattle.std.specs.Prelude.{◌≡◌, ℕ, ◌+◌, List, length, Ok, Err, Result, MatchResult}
use Rattle.fault.specs.declared.FieldFault.{FieldFault}
use Rattle.blockfile.specs.declared.part.Part.{Part}
use Rattle.blockfile.specs.declared.part.Field.{Field}
use Rattle.blockfile.specs.Reading.{opened}

-- how long the file is, of which the part is the rest
abbrev pub file_size : Part → ℕ
file_size p = p.place + length p.bytes.now

abbrev pub due : Part → ℕ → ℕ → Result (List ℕ × List ℕ) FieldFault
due p tag size = opened (file_size p) p.place tag size p.bytes.now

-- the payload and the rest that reading finds, each at its place
pub record IsField (p : Part) (tag size : ℕ) (f : Field) : Type 0 where
  pub opens : due p tag size ≡ Ok (f.payload.bytes.now, f.rest.bytes.now)
  pub long : length f.payload.bytes.now ≡ size
  pub place : f.payload.place ≡ p.place + 3
  pub behind : f.rest.place ≡ p.place + 3 + size
  pub ends : file_size f.rest ≡ file_size p

abbrev pub Opens : Part → ℕ → ℕ → Result Field FieldFault → Type 0
Opens p tag size r = MatchResult r (IsField p tag size) (λ e. due p tag size ≡ Err e)
