pub mod FormSays
