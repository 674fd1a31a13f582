pub mod Licences
pub mod Least
pub mod Gathered
pub mod Complaint
