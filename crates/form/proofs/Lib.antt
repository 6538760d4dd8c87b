pub mod ItemForms
pub mod ItemLists
pub mod StepForms
pub mod RecordsReadBack
pub mod RecordsWithin
pub mod KnownForms
