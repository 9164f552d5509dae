-- The texts of frame errors.
use Rattle.std.specs.Prelude.{ℕ, List, ◌++◌, codes}
use Rattle.std.specs.Fmt.{decimal}
use Rattle.scoop_frame.specs.declared.error.FrameError.{FrameError}
use Rattle.scoop_frame.specs.declared.error.FrameError.TheVariants.{Short, BadMagic, BadVersion, BadKind, LengthWrong, FieldNotZero, FieldZero, BadBody}

-- an error's name, followed by the version or the kind that was met
abbrev pub error_text : FrameError → List ℕ
error_text Short = codes "Short"
error_text BadMagic = codes "BadMagic"
error_text (BadVersion version) = codes "BadVersion " ++ decimal version
error_text (BadKind kind) = codes "BadKind " ++ decimal kind
error_text LengthWrong = codes "LengthWrong"
error_text FieldNotZero = codes "FieldNotZero"
error_text FieldZero = codes "FieldZero"
error_text BadBody = codes "BadBody"
