mod FieldLaws
mod LengthLaws
mod OneLicence
